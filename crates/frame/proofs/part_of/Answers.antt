-- `frame::part_of` meets its contract: the slice's part, with its count a difference.
use native.Mathlib.Omega.{arith}
use mathlib.Core.Path.{◌≡◌, ap}
use mathlib.Core.List.{List}
use Prim.Native.Nat.{ℕ, ◌+◌, ◌-◌}
use lib.ListN.{take, drop}
use Rattle.octets.specs.Octets.{part}
use Rattle.frame.proofs.part_of.Goals as goal

less : (a n : ℕ) → a + n - a ≡ n
less a n = omega arith

-- what the slice's part holds, with its count a difference
span : (s : List ℕ) (a n : ℕ) → take (a + n - a) (drop a s) ≡ part s a n
unfolding part
span s a n = ap (λ (k : ℕ). take k (drop a s)) (less a n)

pub returns : goal.returns
returns c = span _ _ _
