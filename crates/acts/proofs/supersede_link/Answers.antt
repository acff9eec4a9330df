use Rattle.acts.proofs.Laws.{link-free, link-marked}
use Rattle.acts.proofs.supersede_link.Goals as goal

pub returns-then-finished-eq0 : goal.returns-then-finished-eq0
returns-then-finished-eq0 c = link-free _ _ _ c.get8-finished.ensures c.if-finished-eq0.true

pub returns : goal.returns
returns c = link-marked _ _ _ _ c.requires c.get8-finished.ensures c.if-finished-eq0.false c.put8.ensures
