use mathlib.Core.Path.{refl}
use Rattle.groups.proofs.Fresh.{past-none, past-part}
use Rattle.groups.proofs.zero_past.Goals as goal

pub returns-then-w-n : goal.returns-then-w-n
returns-then-w-n c = past-none _ _ _ _ c.requires c.if-w-n.true

pub returns-then-m-eq-FILLING_19_TO_20 : goal.returns-then-m-eq-FILLING_19_TO_20
returns-then-m-eq-FILLING_19_TO_20 c = past-part _ _ _ _ _ _ c.if-w-n.false c.if-m-eq-FILLING_19_TO_20.true c.zero_part.ensures

pub returns-then-m-eq-FILLING_19_TO_21 : goal.returns-then-m-eq-FILLING_19_TO_21
returns-then-m-eq-FILLING_19_TO_21 c = past-part _ _ _ _ _ _ c.if-w-n.false c.if-m-eq-FILLING_19_TO_21.true c.zero_part-then-m-eq-FILLING_19_TO_21.ensures

pub returns-then-m-eq-FILLING_20_TO_21 : goal.returns-then-m-eq-FILLING_20_TO_21
returns-then-m-eq-FILLING_20_TO_21 c = past-part _ _ _ _ _ _ c.if-w-n.false c.if-m-eq-FILLING_20_TO_21.true c.zero_part-then-m-eq-FILLING_20_TO_21.ensures

pub returns : goal.returns
returns c = past-part _ _ _ _ _ _ c.if-w-n.false refl c.zero_part-2.ensures
