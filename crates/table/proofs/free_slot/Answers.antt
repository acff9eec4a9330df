use Rattle.table.proofs.Laws.{free_law}
use Rattle.table.proofs.free_slot.Goals as goal

pub returns : goal.returns
returns c = free_law _ _ _ c.requires.number c.free_below.ensures
