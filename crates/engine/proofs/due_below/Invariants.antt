use Rattle.std.specs.Prelude.{None}
use Rattle.octets.specs.Scan.{first_below}
use Rattle.table.specs.Table.{decode_table, slot}
use Rattle.rules.specs.Book.{expired}
use mathlib.Core.Path.{◌≡◌}
use Rattle.engine.proofs.due_below.Given as goal

abbrev pub invariant-loop-k : goal.invariant-loop-k
invariant-loop-k l = first_below (λ k. expired (slot (decode_table l.t) k) l.time) l.k ≡ None
