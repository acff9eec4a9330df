use Rattle.std.proofs.Common.{◌≡◌, ◌≤◌}
use Rattle.table.specs.Table.{decode_table, slot}
use Rattle.lookups.specs.Lookups.{peer_left, least_below}
use Rattle.lookups.proofs.left_below.Given as goal

abbrev pub invariant-loop-k : goal.invariant-loop-k
invariant-loop-k l = (l.k ≤ l.n) × (l.least ≡ least_below (λ k. peer_left (slot (decode_table l.t) k) l.time) l.k)
