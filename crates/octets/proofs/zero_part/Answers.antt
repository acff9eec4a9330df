use mathlib.Core.Path.{◌≡◌}
use Prim.Native.Nat.{◌+◌, ◌-◌}
use native.Mathlib.Omega.{arith}
use Rattle.octets.specs.Octets.{part}
use Rattle.octets.proofs.zero_part.Goals as goal

pub returns : goal.returns
unfolding part
returns c = let a = c.args in let e : a.at + a.n - a.at ≡ a.n = omega arith in rw e at c.all_zero.ensures
