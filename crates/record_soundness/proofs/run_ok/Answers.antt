use native.Mathlib.Omega.{arith}
use Rattle.soundness.proofs.Tests.{run-nothing, run-committed, run-confirmed, run-other}
use Rattle.record_soundness.proofs.run_ok.Goals as goal

pub returns-then-state-eq0 : goal.returns-then-state-eq0
returns-then-state-eq0 c = run-nothing _ _ _ _ _ _ c.get8-state.ensures c.requires.1.0 (λ i. omega (arith, c.type_inv.s i)) c.requires.0 c.if-state-eq0.true c.zero_all.ensures

pub returns-then-state-eq1 : goal.returns-then-state-eq1
returns-then-state-eq1 c = run-committed _ _ _ _ _ _ c.get8-state.ensures c.if-state-eq0.false c.if-state-eq1.true c.committed_ok.ensures

pub returns-then-state-eq2 : goal.returns-then-state-eq2
returns-then-state-eq2 c = run-confirmed _ _ _ _ _ _ c.get8-state.ensures c.if-state-eq0.false c.if-state-eq1.false c.if-state-eq2.true c.confirmed_ok.ensures

pub returns : goal.returns
returns c = run-other _ _ _ _ _ c.get8-state.ensures c.if-state-eq0.false c.if-state-eq1.false c.if-state-eq2.false
