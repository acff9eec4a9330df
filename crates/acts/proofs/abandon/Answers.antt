use Rattle.acts.proofs.Laws.{abandon-freed, abandon-kept}
use borrow.Author.Rules.{rules}
use Rattle.acts.proofs.abandon.Goals as goal

pub returns-then-finished-eq0 : goal.returns-then-finished-eq0
returns-then-finished-eq0 c = abandon-freed _ c.requires.1 _ c.requires.0 _ _ _ c.finished-finished.ensures c.if-finished-eq0.true c.clear.ensures c.say_event.ensures

pub returns : goal.returns
returns c = abandon-kept _ _ c.requires.1 c.link_at-at.ensures _ c.requires.0 _ _ _ c.finished-finished.ensures c.if-finished-eq0.false c.clear-2.ensures (search rules) c.say_event-2.ensures
