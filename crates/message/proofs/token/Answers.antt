use mathlib.Core.Path.{ap, ◌∙◌}
use native.Mathlib.Omega.{arith}
use Rattle.message.specs.View.{stored_token}
use Rattle.message.proofs.Laws.{token-short}
use borrow.Author.Rules.{rules}
use Rattle.message.proofs.token.Goals as goal

pub filled-requires : goal.filled-requires
filled-requires c = (omega arith, token-short _ _ _ (search rules) c.token_of.ensures)

pub returns : goal.returns
unfolding stored_token
returns c = c.filled.ensures ∙ ap stored_token c.token_of.ensures
