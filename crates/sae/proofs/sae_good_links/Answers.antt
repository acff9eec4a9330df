-- `sae::sae_good_links` meets its contract: each return by its law of Laws.
use Rattle.sae.proofs.Laws.{asked-replied}
use Rattle.sae.proofs.sae_good_links.Goals as goal

pub returns : goal.returns
returns c = asked-replied _ _ _ _ _ c.good_links-a.ensures c.asked_reply.ensures
