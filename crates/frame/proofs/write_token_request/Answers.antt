-- `frame::write_token_request` meets its contract: each branch by its law of Drawing.
use Rattle.frame.proofs.Drawing.{request-empty, request-token, request-drawn}
use Rattle.frame.proofs.write_token_request.Goals as goal

pub returns-then-token-eq0 : goal.returns-then-token-eq0
returns-then-token-eq0 c = request-empty _ _ _ c.if-token-eq0.true

pub returns-then-token-gt-TOKEN : goal.returns-then-token-gt-TOKEN
returns-then-token-gt-TOKEN c = request-token _ _ _ c.if-token-eq0.false c.if-token-gt-TOKEN.true

pub returns : goal.returns
returns c = request-drawn _ _ _ _ _ c.if-token-eq0.false c.if-token-gt-TOKEN.false c.write_body.ensures
