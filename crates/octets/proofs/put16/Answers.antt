use Rattle.octets.proofs.Laws.{put-law}
use native.Mathlib.Omega.{arith}
use Rattle.octets.proofs.put16.Goals as goal

pub returns : goal.returns
returns c = put-law 1 1 _ _ _ _ _ (omega arith) c.put8.ensures c.put8-2.ensures
