use lib.ListN.{length, drop}
use Prim.Native.Nat.{◌≤◌, ◌*◌}
use mathlib.Core.Path.{◌≡◌}
use Rattle.groups.specs.Groups.{fresh_of, tails_ok}
use Rattle.groups.proofs.tails_ok.Given as goal

abbrev pub invariant-loop-i : goal.invariant-loop-i
invariant-loop-i l = (1 ≤ l.w) × (length l.fresh ≡ l.w * length l.groups) × (l.i ≤ length l.groups) × (tails_ok l.groups 0 (fresh_of l.w l.fresh) ≡ tails_ok (drop l.i l.groups) l.i (fresh_of l.w l.fresh))
