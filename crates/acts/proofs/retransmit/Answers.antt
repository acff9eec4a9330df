use Rattle.acts.proofs.Laws.{repeat-ended, repeat-sent}
use Rattle.acts.proofs.retransmit.Goals as goal

pub returns-then-sync-limit : goal.returns-then-sync-limit
returns-then-sync-limit c = repeat-ended _ _ _ _ _ _ _ _ c.sync-sync.ensures c.if-sync-limit.true c.abandon.ensures

pub returns : goal.returns
returns c = repeat-sent _ _ _ _ _ _ _ _ c.sync-sync.ensures c.if-sync-limit.false c.send_counted.ensures
