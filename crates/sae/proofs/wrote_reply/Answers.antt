-- `sae::wrote_reply` meets its contract: each return by its law of Laws.
use native.Mathlib.Omega.{arith}
use Rattle.sae.proofs.wrote_reply.Goals as goal

pub overflow_cast-written : goal.overflow_cast-written
overflow_cast-written c = omega (arith, c.requires.most _ c.in-Ok.is)
