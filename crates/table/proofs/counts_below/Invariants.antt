use Prim.Native.Nat.{◌≤◌}
use mathlib.Core.Path.{◌≡◌}
use Rattle.octets.specs.Scan.{count_below}
use Rattle.table.specs.Table.{decode_table, slot, in_use, is_open, is_good}
use Rattle.table.proofs.counts_below.Given as goal

abbrev pub invariant-loop-k : goal.invariant-loop-k
invariant-loop-k l = (l.k ≤ l.n)
    × ((l.used ≡ count_below (λ k. in_use (slot (decode_table l.t) k)) l.k) × ((l.opened ≡ count_below (λ k. is_open (slot (decode_table l.t) k)) l.k) × (l.good ≡ count_below (λ k. is_good (slot (decode_table l.t) k)) l.k)))
