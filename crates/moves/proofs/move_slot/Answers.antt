use Rattle.moves.proofs.Carries.{slot-law}
use borrow.Author.Rules.{rules}
use Rattle.moves.proofs.move_slot.Goals as goal

pub returns : goal.returns
returns c = slot-law c.args.s.now c.args.t.now _ c.args.w c.args.v c.args.k _ _ _ _ c.requires (λ i. search rules)
    c.record_at-a.ensures c.record_size.ensures c.record_at-b.ensures c.record_size-2.ensures c.move_record.ensures
