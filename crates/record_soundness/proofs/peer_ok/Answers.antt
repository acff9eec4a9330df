use native.Mathlib.Omega.{arith}
use Rattle.soundness.proofs.Tests.{peer-free, peer-used}
use Rattle.record_soundness.proofs.peer_ok.Goals as goal

pub returns-then-used-eq0 : goal.returns-then-used-eq0
returns-then-used-eq0 c = peer-free _ _ _ _ _ _ _ c.get8-used.ensures c.requires.1.0 (λ i. omega (arith, c.type_inv.s i)) c.requires.0 c.if-used-eq0.true c.zero_all.ensures

pub returns : goal.returns
returns c = peer-used _ _ _ _ _ _ _ c.get8-used.ensures c.if-used-eq0.false c.in_use_ok.ensures
