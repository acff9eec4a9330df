use mathlib.Core.Path.{ap, ◌∙◌}
use Rattle.octets.specs.Octets.{num}
use Rattle.octets.proofs.Laws.{part-all}
use borrow.Author.Rules.{rules}
use Rattle.octets.proofs.packed.Goals as goal

pub returns : goal.returns
returns c = c.get48.ensures ∙ ap num (part-all _ 6 (search rules))
