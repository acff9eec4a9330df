use mathlib.Core.Path.{◌≡◌}
use lib.ListN.{length}
use Rattle.moves.proofs.Carries.{carry-beside, carry-law}
use borrow.Author.Rules.{rules}
use Rattle.moves.proofs.carry.Goals as goal

pub move_slots-requires : goal.move_slots-requires
move_slots-requires c = carry-beside c.args.f c.args.s.now c.args.h c.args.t.now c.requires _ c.width_of-w.ensures.0 c.width_of-w.ensures.1

pub returns : goal.returns
returns c = let fit : length c.args.h.own ≡ 6 = search rules in carry-law c.args.f c.args.s.now c.args.h c.args.t.now c.requires _ _ _ (λ i. search rules) fit
    c.move_slots.ensures c.sized-other.ensures c.store_header.ensures
