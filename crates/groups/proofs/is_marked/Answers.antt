use Rattle.groups.specs.Groups.{marked}
use Rattle.groups.proofs.is_marked.Goals as goal

pub returns : goal.returns
unfolding marked
returns c = rw c.marks_from.ensures
