use borrow.Author.Rules.{rules}
use Rattle.calls.specs.Calls.{crowded}
use Rattle.engine.proofs.is_crowded.Goals as goal

pub returns : goal.returns
unfolding crowded
returns c = search rules
