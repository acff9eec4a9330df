use Rattle.std.specs.Prelude.{None}
use Rattle.octets.specs.Octets.{num}
use lib.Dec.{eqb}
use Rattle.octets.specs.Scan.{first_below}
use Rattle.table.specs.Table.{decode_table, slot, in_use}
use mathlib.Core.Bool.{◌&&◌}
use mathlib.Core.Path.{◌≡◌}
use Rattle.table.proofs.find_below.Given as goal

abbrev pub invariant-loop-k : goal.invariant-loop-k
invariant-loop-k l = first_below (λ k. in_use (slot (decode_table l.t) k) && eqb (num (slot (decode_table l.t) k).address) l.x) l.k ≡ None
