-- `sae::sae_find` meets its contract: each return by its law of Laws.
use Rattle.sae.proofs.Laws.{asked-replied}
use Rattle.sae.proofs.sae_find.Goals as goal

pub returns : goal.returns
returns c = asked-replied _ _ _ _ _ c.find-a.ensures c.asked_reply.ensures
