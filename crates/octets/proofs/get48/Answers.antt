use native.Mathlib.Omega.{arith}
use Rattle.octets.proofs.Laws.{get-law}
use Rattle.octets.proofs.get48.Goals as goal

pub returns : goal.returns
returns c = get-law 4 2 _ _ _ _ _ (omega arith) c.get32.ensures c.get16.ensures c.join48.ensures
