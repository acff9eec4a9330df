use Rattle.octets.proofs.Laws.{filled-law}
use Rattle.octets.proofs.filled.Goals as goal

pub returns : goal.returns
returns g c = filled-law _ _ _ c.copy_in.ensures
