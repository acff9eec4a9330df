use Rattle.perform.proofs.Repeats.{confirm-again-law}
use Rattle.perform.proofs.confirm_again.Goals as goal

pub returns : goal.returns
returns c = confirm-again-law _ _ _ _ _ _ _ c.sc-sc.ensures c.confirm_frame-confirm.ensures c.retransmit.ensures
