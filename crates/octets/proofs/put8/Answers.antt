use native.Mathlib.Omega.{arith}
use Rattle.octets.proofs.Laws.{put8-law}
use Rattle.octets.proofs.put8.Goals as goal

pub returns : goal.returns
returns c = put8-law _ _ _ c.requires (omega arith)
