use lib.Dec.{eqb}
use Rattle.octets.specs.Scan.{last_below}
use Rattle.table.specs.Table.{decode_table, slot}
use mathlib.Core.Path.{◌≡◌}
use Rattle.table.proofs.free_below.Given as goal

abbrev pub invariant-loop-k : goal.invariant-loop-k
invariant-loop-k l = last_below (λ k. eqb (slot (decode_table l.t) k).used 0) l.n ≡ last_below (λ k. eqb (slot (decode_table l.t) k).used 0) l.k
