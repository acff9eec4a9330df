use native.Mathlib.Omega.{arith}
use Rattle.initial.proofs.Initial.{made-size, slots-by}
use Rattle.initial.proofs.slots_for.Goals as goal

pub nonzero_div-result : goal.nonzero_div-result
nonzero_div-result c = omega (arith, made-size c.wide-form.ensures)

pub returns : goal.returns
returns c = slots-by _ _ c.wide-form.ensures
