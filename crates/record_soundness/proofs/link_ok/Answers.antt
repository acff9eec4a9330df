use native.Mathlib.Omega.{arith}
use Rattle.soundness.proofs.Tests.{link-nothing, link-finish}
use Rattle.record_soundness.proofs.link_ok.Goals as goal

pub returns-then-finished-eq0 : goal.returns-then-finished-eq0
returns-then-finished-eq0 c = link-nothing _ _ _ _ _ _ c.get8-finished.ensures c.requires.1 (λ i. omega (arith, c.type_inv.s i)) c.requires.0 c.if-finished-eq0.true c.zero_all.ensures

pub returns : goal.returns
returns c = link-finish _ _ _ _ _ _ c.get8-finished.ensures c.if-finished-eq0.false c.finished_ok.ensures
