-- `frame::write_group_refusal` meets its contract: each branch by its law of Drawing.
use Rattle.frame.proofs.Drawing.{refusal-drawn}
use Rattle.frame.proofs.write_group_refusal.Goals as goal

pub returns : goal.returns
returns c = refusal-drawn _ _ _ _ c.write_body.ensures
