use Rattle.groups.proofs.Laws.{listable-by}
use Rattle.groups.proofs.is_listable.Goals as goal

pub returns : goal.returns
returns c = listable-by _ _ _ c.commit_length-n.ensures.0
