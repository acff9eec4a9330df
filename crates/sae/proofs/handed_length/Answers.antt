-- `sae::handed_length` meets its contract: each return by its law of Laws.
use native.Mathlib.Omega.{arith}
use Rattle.sae.proofs.Laws.{length-behind, length-token, behind-short}
use Rattle.sae.proofs.handed_length.Goals as goal

pub overflow_cast-result : goal.overflow_cast-result
overflow_cast-result c = omega (arith, behind-short _ _ c.requires c.elements_of-elements.ensures)

pub returns-then-has_value : goal.returns-then-has_value
returns-then-has_value c = length-behind c.args.v _ _ c.has_value.ensures _ c.if-has_value.true c.elements_of-elements.ensures

pub returns : goal.returns
returns c = length-token c.args.v _ _ c.has_value.ensures c.if-has_value.false
