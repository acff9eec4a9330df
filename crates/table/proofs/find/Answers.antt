use Rattle.table.proofs.Laws.{find-law}
use Rattle.table.proofs.find.Goals as goal

pub returns : goal.returns
returns c = find-law _ _ _ _ _ c.requires.number c.packed-x.ensures c.find_below.ensures
