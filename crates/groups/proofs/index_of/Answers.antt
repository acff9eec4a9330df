use Rattle.groups.proofs.Laws.{index-value}
use Rattle.groups.proofs.index_of.Goals as goal

pub returns : goal.returns
returns c = index-value _ _ _ _ c.requires c.place_of.ensures c.unwrap_or.ensures
