-- `frame::read_group_refusal` meets its contract: each branch by its law of Reading.
use Rattle.frame.proofs.Reading.{field-number, refusal-other, refusal-read}
use Rattle.frame.proofs.read_group_refusal.Goals as goal

pub returns-then-frame-ne-HEAD : goal.returns-then-frame-ne-HEAD
returns-then-frame-ne-HEAD c = refusal-other _ c.if-frame-ne-HEAD.true

pub returns : goal.returns
returns c = refusal-read _ _ c.if-frame-ne-HEAD.false (field-number c.field_at-f.result _ _ 6 c.field_at-f.ensures c.requires)
