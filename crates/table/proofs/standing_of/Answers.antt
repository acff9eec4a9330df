use Rattle.table.proofs.Laws.{standing-law}
use Rattle.table.proofs.standing_of.Goals as goal

pub returns : goal.returns
returns c = standing-law _ _ _ _ _ c.is_used-used.ensures c.is_open-opened.ensures c.is_good-good.ensures
