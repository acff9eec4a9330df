-- `sae::rest_at` meets its contract: each return by its law of Laws.
use Rattle.sae.proofs.Laws.{rest-scalar, rest-value, rest-not}
use Rattle.sae.proofs.rest_at.Goals as goal

pub returns-then-listed : goal.returns-then-listed
returns-then-listed c = rest-scalar c.args.v c.if-listed.true

pub returns-then-has_value : goal.returns-then-has_value
returns-then-has_value c = rest-value c.args.v _ c.if-listed.false c.has_value.ensures c.if-has_value.true

pub returns : goal.returns
returns c = rest-not c.args.v _ c.if-listed.false c.has_value.ensures c.if-has_value.false
