use Rattle.moves.proofs.Records.{move-record-law}
use borrow.Author.Rules.{rules}
use Rattle.moves.proofs.move_record.Goals as goal

pub returns : goal.returns
returns c = move-record-law c.args.w c.args.v c.args.s.now c.args.t.now _ _ _ _ _ _ _ _ _ _ c.requires.1.1.0 c.requires.1.1.1
    (λ i. search rules) c.requires.0 c.requires.1.0 c.second_at.ensures c.second_at-2.ensures
    c.third_at.ensures c.third_at-2.ensures c.fourth_at.ensures c.fourth_at-2.ensures
    c.move_piece.ensures c.move_piece-2.ensures c.move_piece-3.ensures c.move_piece-4.ensures
