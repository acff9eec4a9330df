use mathlib.Core.Path.{refl}
use borrow.Author.Tests.{eq-eqb, ne_eqb}
use Rattle.rules.specs.Book.{confirm_committed}
use Rattle.decide.proofs.confirm_committed.Goals as goal

pub returns-then-status-ne0 : goal.returns-then-status-ne0
unfolding confirm_committed
returns-then-status-ne0 c = rw (ne_eqb _ _ c.if-status-ne0.true) refl

pub returns : goal.returns
unfolding confirm_committed
returns c = rw (eq-eqb _ _ c.if-status-ne0.false) refl
