use Rattle.rules.specs.Book.{commit_act}
use Rattle.decide.proofs.Rungs.{read_is, read-isnt}
use Rattle.decide.proofs.commit.Goals as goal

pub returns-then-state-eq1 : goal.returns-then-state-eq1
unfolding commit_act
returns-then-state-eq1 c = rw (read_is _ _ _ c.state-state.ensures c.if-state-eq1.true) c.commit_committed.ensures

pub returns-then-state-eq2 : goal.returns-then-state-eq2
unfolding commit_act
returns-then-state-eq2 c = rw (read-isnt _ _ _ c.state-state.ensures c.if-state-eq1.false, read_is _ _ _ c.state-state.ensures c.if-state-eq2.true) c.commit_confirmed.ensures

pub returns : goal.returns
unfolding commit_act
returns c = rw (read-isnt _ _ _ c.state-state.ensures c.if-state-eq1.false, read-isnt _ _ _ c.state-state.ensures c.if-state-eq2.false) c.commit_idle.ensures
