use native.Mathlib.Omega.{arith}
use Rattle.initial.proofs.Initial.{made-size, length-short, length-by}
use Rattle.initial.proofs.length_ok.Goals as goal

pub returns-then-n-lt-HEADER : goal.returns-then-n-lt-HEADER
returns-then-n-lt-HEADER c = length-short _ c.if-n-lt-HEADER.true

pub nonzero_rem-result : goal.nonzero_rem-result
nonzero_rem-result c = omega (arith, made-size c.wide-form.ensures)

pub returns : goal.returns
returns c = length-by _ _ _ c.wide-form.ensures c.if-n-lt-HEADER.false c.slots_for-k.ensures
