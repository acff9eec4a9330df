use Rattle.octets.proofs.Laws.{get8-law}
use Rattle.octets.proofs.get8.Goals as goal

pub returns : goal.returns
returns c = get8-law _ _ c.requires
