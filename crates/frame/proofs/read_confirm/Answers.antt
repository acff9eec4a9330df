-- `frame::read_confirm` meets its contract: each branch by its law of Reading.
use native.Mathlib.Omega.{arith}
use Rattle.frame.proofs.Reading.{head-status, head-reached, field-number, field-reached, confirm-other, confirm-short, confirm-cut, confirm-read}
use Rattle.frame.proofs.read_confirm.Goals as goal

pub returns-then-status-ne-SUCCESS : goal.returns-then-status-ne-SUCCESS
returns-then-status-ne-SUCCESS c = confirm-other _ _ (head-status _ _ c.requires) c.if-status-ne-SUCCESS.true

pub returns-then-frame-lt-CONFIRM : goal.returns-then-frame-lt-CONFIRM
returns-then-frame-lt-CONFIRM c = confirm-short _ _ (head-status _ _ c.requires) c.if-status-ne-SUCCESS.false c.if-frame-lt-CONFIRM.true

pub field_at-f-requires : goal.field_at-f-requires
field_at-f-requires c = omega (arith, head-reached _ _ c.requires)

pub overflow_add-f : goal.overflow_add-f
overflow_add-f c = omega (arith, field-reached c.field_at-f.result _ _ 6 c.field_at-f.ensures (head-reached _ _ c.requires))

pub is_whole-whole-requires : goal.is_whole-whole-requires
is_whole-whole-requires c = omega (arith, field-reached c.field_at-f.result _ _ 6 c.field_at-f.ensures (head-reached _ _ c.requires))

pub returns-then-not-whole : goal.returns-then-not-whole
returns-then-not-whole c = confirm-cut _ _ (head-status _ _ c.requires) c.if-status-ne-SUCCESS.false c.if-frame-lt-CONFIRM.false _ _
    (field-reached c.field_at-f.result _ _ 6 c.field_at-f.ensures (head-reached _ _ c.requires))
    c.is_whole-whole.ensures (c.if-not-whole.true)

pub returns : goal.returns
returns c = confirm-read _ _ (head-status _ _ c.requires) c.if-status-ne-SUCCESS.false c.if-frame-lt-CONFIRM.false _ _
    (field-reached c.field_at-f.result _ _ 6 c.field_at-f.ensures (head-reached _ _ c.requires))
    c.is_whole-whole.ensures _ (c.if-not-whole.false)
    (field-number c.field_at-f.result _ _ 6 c.field_at-f.ensures (head-reached _ _ c.requires))
