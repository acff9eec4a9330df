use Rattle.engine.proofs.Clocks.{due-law}
use Rattle.engine.proofs.due_slot.Goals as goal

pub returns : goal.returns
returns c = due-law _ _ _ _ c.requires.number c.due_below.ensures
