use Rattle.acts.proofs.Laws.{end-freed, end_kept}
use borrow.Author.Rules.{rules}
use Rattle.acts.proofs.end_link.Goals as goal

pub returns-then-state-eq0 : goal.returns-then-state-eq0
returns-then-state-eq0 c = end-freed _ c.requires.1 _ c.requires.0 _ _ _ c.state-state.ensures c.if-state-eq0.true c.clear.ensures c.say_event.ensures

pub returns : goal.returns
returns c = end_kept _ _ c.requires.1 c.link_at-at.ensures _ c.requires.0 _ c.record_size-end.ensures _ _ _ c.state-state.ensures c.if-state-eq0.false c.clear-2.ensures (search rules) c.say_event-2.ensures
