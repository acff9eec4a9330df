use Rattle.acts.proofs.Laws.{accept-law}
use borrow.Author.Rules.{rules}
use Rattle.acts.proofs.accept.Goals as goal

pub returns : goal.returns
returns c = accept-law _ _ c.link_at-at.ensures _ _ c.requires.0 c.copy_within.ensures _ _ _ _ _ _ _ _ c.requires.1 c.record_size-end.ensures (search rules) (search rules)
    c.sync-sync.ensures c.group-group.ensures c.finish_link.ensures c.clear.ensures c.say_event.ensures
