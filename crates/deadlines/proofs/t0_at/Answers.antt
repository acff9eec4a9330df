use Rattle.std.proofs.Common.{ap, ◌∙◌}
use Rattle.rules.specs.Book.{deadline}
use Rattle.deadlines.proofs.t0_at.Goals as goal

pub returns : goal.returns
returns c = c.after.ensures ∙ ap (deadline _) c.delay_of.ensures
