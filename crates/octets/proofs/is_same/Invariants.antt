use mathlib.Core.Path.{◌≡◌}
use lib.ListN.{length, get_or}
use lib.Dec.{eqb}
use Rattle.octets.specs.Scan.{all_below}
use Rattle.octets.proofs.is_same.Given as goal

abbrev pub invariant-loop-x : goal.invariant-loop-x
invariant-loop-x l = eqb l.any 0 ≡ all_below (λ k. eqb (get_or l.a k 0) (get_or l.b k 0)) (length l.yielded)
