use Rattle.perform.proofs.Repeats.{repeat-refusal-law}
use Rattle.perform.proofs.repeat_refusal.Goals as goal

pub returns : goal.returns
returns c = repeat-refusal-law _ _ _ _ _ _ _ _ c.sc-sc.ensures c.group_refusal_frame-refusal.ensures c.retransmit.ensures
