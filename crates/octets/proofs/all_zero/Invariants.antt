use mathlib.Core.Path.{◌≡◌}
use lib.ListN.{get_or}
use lib.Dec.{eqb}
use Rattle.octets.specs.Scan.{all_below}
use Rattle.octets.proofs.all_zero.Given as goal

abbrev pub invariant-loop-x : goal.invariant-loop-x
invariant-loop-x l = eqb l.any 0 ≡ all_below (λ k. eqb (get_or l.s k 0) 0) l.x-index
