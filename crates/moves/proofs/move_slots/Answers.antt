use native.Mathlib.Omega.{arith}
use borrow.Author.Rules.{rules}
use Rattle.moves.proofs.Carries.{none_yet, one-beside, one_more, all_done}
use Rattle.moves.proofs.move_slots.Goals as goal

pub loop-k-init : goal.loop-k-init
loop-k-init c = none_yet c.args.s.now c.args.t.now c.args.w c.args.v c.args.n (λ i. search rules) c.requires

pub move_slot-requires : goal.move_slot-requires
move_slot-requires c = one-beside c.args.s.now c.args.t.now c.args.w c.args.v c.args.n (λ i. search rules) c.requires _ _ c.loop-k-test.true c.loop-k.invariant

pub loop-k-preserved : goal.loop-k-preserved
loop-k-preserved c = one_more c.args.s.now c.args.t.now c.args.w c.args.v c.args.n (λ i. search rules) c.requires _ _ _ c.loop-k-test.true c.loop-k.invariant c.move_slot.ensures

pub returns : goal.returns
returns c = all_done c.args.s.now c.args.t.now c.args.w c.args.v c.args.n (λ i. search rules) c.requires _ _ c.loop-k.auto.k-end (omega (arith, c.loop-k-test.false)) c.loop-k.invariant
