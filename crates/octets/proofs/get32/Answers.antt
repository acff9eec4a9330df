use native.Mathlib.Omega.{arith}
use Rattle.octets.proofs.Laws.{get-law}
use Rattle.octets.proofs.get32.Goals as goal

pub returns : goal.returns
returns c = get-law 2 2 _ _ _ _ _ (omega arith) c.get16.ensures c.get16-2.ensures c.join32.ensures
