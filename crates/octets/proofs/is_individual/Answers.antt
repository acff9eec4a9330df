use Rattle.octets.specs.Octets.{individual}
use borrow.Author.Rules.{rules}
use Rattle.octets.proofs.is_individual.Goals as goal

pub returns : goal.returns
unfolding individual
returns c = search rules
