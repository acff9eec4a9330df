use Rattle.decide.proofs.Rungs.{no-link, other-link, this-link}
use Rattle.decide.proofs.is_linked.Goals as goal

pub returns-then-finished-eq0 : goal.returns-then-finished-eq0
returns-then-finished-eq0 c = search (no-link, other-link, this-link)

pub returns-then-our_group-group : goal.returns-then-our_group-group
returns-then-our_group-group c = search (no-link, other-link, this-link)

pub returns : goal.returns
returns c = search (no-link, other-link, this-link)
