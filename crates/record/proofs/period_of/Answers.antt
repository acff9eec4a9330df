use mathlib.Core.Path.{refl}
use borrow.Author.Tests.{eq-eqb, ne_eqb}
use Rattle.record.specs.Layout.{period_of}
use Rattle.record.proofs.period_of.Goals as goal

pub returns-then-entry-eq0 : goal.returns-then-entry-eq0
unfolding period_of
returns-then-entry-eq0 c = rw (eq-eqb _ _ c.if-entry-eq0.true) refl

pub returns : goal.returns
unfolding period_of
returns c = rw (ne_eqb _ _ c.if-entry-eq0.false) refl
