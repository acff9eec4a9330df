use lib.ListN.{length, get_or}
use Rattle.table.specs.Table.{decode_table, slot, key}
use Prim.Native.Nat.{ℕ, ◌≤◌, ◌<◌}
use mathlib.Core.Path.{◌≡◌}
use Rattle.table.proofs.fill_keys.Given as goal

abbrev pub invariant-loop-k : goal.invariant-loop-k
invariant-loop-k l = (l.k ≤ l.n) × ((length l.keys ≡ length l.initial.keys) × ((k : ℕ) → k < l.k → get_or l.keys k 0 ≡ key (slot (decode_table l.t) k)))
