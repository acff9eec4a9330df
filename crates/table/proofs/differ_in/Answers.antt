use Rattle.table.proofs.Keys.{addresses-law}
use Rattle.table.proofs.differ_in.Goals as goal

pub returns : goal.returns
returns c = addresses-law _ _ _ _ c.fill_keys.ensures c.all_new.ensures
