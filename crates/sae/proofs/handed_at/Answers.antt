-- `sae::handed_at` meets its contract: each return by its law of Laws.
use Rattle.sae.proofs.Laws.{handed-token, handed-behind, handed-not}
use Rattle.sae.proofs.handed_at.Goals as goal

pub returns-then-has_token : goal.returns-then-has_token
returns-then-has_token c = handed-token c.args.v _ c.has_token.ensures c.if-has_token.true

pub returns-then-has_value : goal.returns-then-has_value
returns-then-has_value c = handed-behind c.args.v _ c.has_token.ensures c.if-has_token.false _ c.has_value.ensures c.if-has_value.true

pub returns : goal.returns
returns c = handed-not c.args.v _ c.has_token.ensures c.if-has_token.false _ c.has_value.ensures c.if-has_value.false
