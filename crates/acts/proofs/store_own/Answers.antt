use Rattle.acts.proofs.Laws.{store-own-law}
use Rattle.acts.proofs.store_own.Goals as goal

pub returns : goal.returns
returns c = store-own-law _ _ _ _ c.requires.0 c.requires.1.1 c.copy_in.ensures
