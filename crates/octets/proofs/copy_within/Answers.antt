use native.Mathlib.Omega.{arith}
use Rattle.octets.proofs.Laws.{within-law}
use Rattle.octets.proofs.copy_within.Goals as goal

pub returns : goal.returns
returns c = within-law _ _ _ _ _ (omega arith) c.copy_within.ensures.after
