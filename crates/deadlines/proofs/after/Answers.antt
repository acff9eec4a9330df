use Rattle.rules.specs.Book.{deadline}
use Rattle.deadlines.proofs.after.Goals as goal

pub returns : goal.returns
unfolding deadline
returns c = c.wrapping_add_u32.ensures.value
