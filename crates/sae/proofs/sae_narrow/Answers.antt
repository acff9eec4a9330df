-- `sae::sae_narrow` meets its contract by its law of Laws.
use Rattle.sae.proofs.Laws.{moved-law}
use Rattle.sae.proofs.sae_narrow.Goals as goal

pub returns : goal.returns
returns c = moved-law _ _ _ _ c.move_table.ensures c.number_of.ensures
