-- `frame::read_token_request` meets its contract: each branch by its law of Reading.
use native.Mathlib.Omega.{arith}
use Rattle.frame.proofs.Reading.{field-number, field-reached, request-short, request-long, request-read}
use Rattle.frame.proofs.read_token_request.Goals as goal

pub returns-then-n : goal.returns-then-n
returns-then-n c = request-short _ c.if-n.true

pub returns-then-n-2 : goal.returns-then-n-2
returns-then-n-2 c = request-long _ c.if-n.false c.if-n-2.true

pub overflow_sub-token : goal.overflow_sub-token
overflow_sub-token c = omega (arith, field-reached c.field_at-f.result _ _ 6 c.field_at-f.ensures c.requires)

pub returns : goal.returns
returns c = request-read _ _ _ c.if-n.false c.if-n-2.false (field-number c.field_at-f.result _ _ 6 c.field_at-f.ensures c.requires) (field-reached c.field_at-f.result _ _ 6 c.field_at-f.ensures c.requires)
