use mathlib.Core.Path.{◌∙◌}
use borrow.Author.Tests.{eq-eqb, ne_eqb}
use Rattle.record.specs.Layout.{form_of}
use Rattle.record.proofs.form_of.Goals as goal

pub returns-then-size : goal.returns-then-size
unfolding form_of
returns-then-size c = c.narrow.ensures ∙ simp (eq-eqb _ _ c.if-size.true)

pub returns-then-size-2 : goal.returns-then-size-2
unfolding form_of
returns-then-size-2 c = c.wide.ensures ∙ simp (ne_eqb _ _ c.if-size.false, eq-eqb _ _ c.if-size-2.true)

pub returns : goal.returns
unfolding form_of
returns c = simp (ne_eqb _ _ c.if-size.false, ne_eqb _ _ c.if-size-2.false)
