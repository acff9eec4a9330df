use mathlib.Core.Path.{refl, sym}
use Rattle.octets.specs.Octets.{all_zero}
use Rattle.octets.proofs.Scan.{all_none}
use Rattle.octets.proofs.Tests.{zero-step, zero-through}
use Rattle.octets.proofs.all_zero.Goals as goal

pub loop-x-init : goal.loop-x-init
loop-x-init c = sym (all_none _)

pub loop-x-preserved : goal.loop-x-preserved
loop-x-preserved c = let l = c.loop-x in zero-step _ l.x-index l.any _ l.invariant refl

pub returns : goal.returns
unfolding all_zero
returns c = let l = c.loop-x in zero-through _ _ l.x-index l.any l.auto.x-index-end c.loop-x-test.false l.invariant
