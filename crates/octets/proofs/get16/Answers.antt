use native.Mathlib.Omega.{arith}
use Rattle.octets.proofs.Laws.{get-law}
use Rattle.octets.proofs.get16.Goals as goal

pub returns : goal.returns
returns c = get-law 1 1 _ _ _ _ _ (omega arith) c.get8.ensures c.get8-2.ensures c.join16.ensures
