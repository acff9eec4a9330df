use Rattle.perform.proofs.Repeats.{hear-last-law}
use Rattle.perform.proofs.hear_last.Goals as goal

pub returns : goal.returns
returns c = hear-last-law _ _ _ _ _ _ c.link_sync-sync.ensures c.hear.ensures
