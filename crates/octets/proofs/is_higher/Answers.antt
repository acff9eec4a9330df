use mathlib.Core.Path.{◌∙◌}
use borrow.Author.Rules.{rules}
use Rattle.octets.proofs.Tests.{higher-law}
use Rattle.octets.proofs.is_higher.Goals as goal

pub returns : goal.returns
returns c = c.gt.ensures ∙ higher-law c.args.a c.args.b (search rules)
