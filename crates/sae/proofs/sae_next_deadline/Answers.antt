-- `sae::sae_next_deadline` meets its contract: each return by its law of Laws.
use Rattle.sae.proofs.Laws.{asked-replied}
use Rattle.sae.proofs.sae_next_deadline.Goals as goal

pub returns : goal.returns
returns c = asked-replied _ _ _ _ _ c.next_deadline-a.ensures c.asked_reply.ensures
