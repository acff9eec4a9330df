use borrow.Author.Tests.{eq-eqb, ne_eqb}
use Rattle.rules.specs.Book.{frame_act}
use Rattle.decide.proofs.frame.Goals as goal

pub returns-then-sequence-eq1 : goal.returns-then-sequence-eq1
unfolding frame_act
returns-then-sequence-eq1 c = rw (eq-eqb _ _ c.if-sequence-eq1.true) c.commit.ensures

pub returns : goal.returns
unfolding frame_act
returns c = rw (ne_eqb _ _ c.if-sequence-eq1.false) c.confirm.ensures
