use mathlib.Core.Path.{refl}
use borrow.Author.Tests.{eq-eqb, ne_eqb}
use Rattle.decide.proofs.for_ours.Goals as goal

pub returns-then-group-ours : goal.returns-then-group-ours
returns-then-group-ours c = rw (eq-eqb _ _ c.if-group-ours.true) refl

pub returns : goal.returns
returns c = rw (ne_eqb _ _ c.if-group-ours.false) refl
