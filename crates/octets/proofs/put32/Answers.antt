use Rattle.octets.proofs.Laws.{put-law}
use native.Mathlib.Omega.{arith}
use Rattle.octets.proofs.put32.Goals as goal

pub returns : goal.returns
returns c = put-law 2 2 _ _ _ _ _ (omega arith) c.put16.ensures c.put16-2.ensures
