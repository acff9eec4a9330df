use lib.ListN.{length, drop}
use Prim.Native.Nat.{◌≤◌, ◌-◌}
use mathlib.Core.Path.{◌≡◌}
use Rattle.groups.specs.Groups.{first_left}
use Rattle.groups.proofs.first_left.Given as goal

abbrev pub invariant-loop-i : goal.invariant-loop-i
invariant-loop-i l = (length l.groups ≤ 8) × (l.i ≤ length l.groups) × (first_left l.groups 0 l.rejected ≡ first_left (drop l.i l.groups) l.i l.rejected)

abbrev pub decreases-loop-i : goal.decreases-loop-i
decreases-loop-i l = length l.groups - l.i
