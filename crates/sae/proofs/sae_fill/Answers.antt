-- `sae::sae_fill` meets its contract by its law of Laws.
use Rattle.sae.proofs.Laws.{filled-law}
use Rattle.sae.proofs.sae_fill.Goals as goal

pub returns : goal.returns
returns c = filled-law _ _ _ _ c.fill_good.ensures c.number_of.ensures
