use mathlib.Core.Path.{refl}
use Rattle.rules.specs.Book.{confirm_act}
use Rattle.decide.proofs.Rungs.{read_is, read-isnt}
use Rattle.decide.proofs.confirm.Goals as goal

pub returns-then-state-eq1 : goal.returns-then-state-eq1
unfolding confirm_act
returns-then-state-eq1 c = rw (read_is _ _ _ c.state-state.ensures c.if-state-eq1.true) c.confirm_committed.ensures

pub returns-then-state-eq2 : goal.returns-then-state-eq2
unfolding confirm_act
returns-then-state-eq2 c = rw (read-isnt _ _ _ c.state-state.ensures c.if-state-eq1.false, read_is _ _ _ c.state-state.ensures c.if-state-eq2.true) c.confirm_confirmed.ensures

pub returns-then-finished-ne0 : goal.returns-then-finished-ne0
unfolding confirm_act
returns-then-finished-ne0 c = rw (read-isnt _ _ _ c.state-state.ensures c.if-state-eq1.false, read-isnt _ _ _ c.state-state.ensures c.if-state-eq2.false, read-isnt _ _ _ c.finished-finished.ensures c.if-finished-ne0.true) c.confirm_linked.ensures

pub returns : goal.returns
unfolding confirm_act
returns c = rw (read-isnt _ _ _ c.state-state.ensures c.if-state-eq1.false, read-isnt _ _ _ c.state-state.ensures c.if-state-eq2.false, read_is _ _ _ c.finished-finished.ensures c.if-finished-ne0.false) refl
