-- `frame::is_whole` meets its contract: from the offset reached the elements are whole just if they are from the first one; each step by its law of Elements.
use mathlib.Core.Path.{◌≡◌}
use Prim.Native.Nat.{◌≤◌, ◌-◌}
use lib.ListN.{length, drop}
use Rattle.frame.specs.Frame.{whole_elements}
use Rattle.frame.proofs.is_whole.Given as goal

abbrev pub invariant-loop-reached : goal.invariant-loop-reached
invariant-loop-reached l = (l.reached ≤ length l.frame) × (whole_elements (drop l.at l.frame) ≡ whole_elements (drop l.reached l.frame))

abbrev pub decreases-loop-reached : goal.decreases-loop-reached
decreases-loop-reached l = length l.frame - l.reached
