use lib.Dec.{eqb}
use lib.ListN.{get_or}
use Rattle.octets.specs.Scan.{all_below}
use mathlib.Core.Bool.{not}
use mathlib.Core.Path.{◌≡◌}
use Rattle.table.proofs.is_new.Given as goal

abbrev pub invariant-loop-key : goal.invariant-loop-key
invariant-loop-key l = l.any ≡ not (all_below (λ i. not (eqb (get_or l.keys i 0) l.x)) l.key-index)
