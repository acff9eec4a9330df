use Rattle.perform.proofs.Repeats.{hear-again-law}
use Rattle.perform.proofs.hear_again.Goals as goal

pub returns : goal.returns
returns c = hear-again-law _ _ _ _ _ _ _ c.link_sync-sync.ensures c.confirm_frame-confirm.ensures c.hear.ensures
