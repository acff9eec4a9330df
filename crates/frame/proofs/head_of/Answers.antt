-- `frame::head_of` meets its contract: three fields from the start, each where the reader stands behind the one before.
use mathlib.Core.Path.{refl}
use native.Mathlib.Omega.{arith}
use Rattle.frame.proofs.Reading.{field-reached, head_read}
use Rattle.frame.proofs.head_of.Goals as goal

pub field_at-sequence-requires : goal.field_at-sequence-requires
field_at-sequence-requires c = omega (arith, field-reached c.field_at-algorithm.result _ 0 0 c.field_at-algorithm.ensures refl)

pub field_at-status-requires : goal.field_at-status-requires
field_at-status-requires c = omega (arith, field-reached c.field_at-sequence.result _ _ 2 c.field_at-sequence.ensures (field-reached c.field_at-algorithm.result _ 0 0 c.field_at-algorithm.ensures refl))

pub returns : goal.returns
returns c = head_read _ _ _ _ c.field_at-algorithm.ensures c.field_at-sequence.ensures c.field_at-status.ensures
