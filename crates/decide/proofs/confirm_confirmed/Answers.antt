use mathlib.Core.Path.{refl}
use borrow.Author.Tests.{eq-eqb, ne_eqb}
use Rattle.rules.specs.Book.{confirm_confirmed}
use Rattle.rules.proofs.Branches.{holds-not-true, holds-not-false}
use Rattle.std.proofs.Common.{ap}
use Rattle.std.specs.Prelude.{not}
use Rattle.decide.proofs.confirm_confirmed.Goals as goal

pub returns-then-status-ne0 : goal.returns-then-status-ne0
unfolding confirm_confirmed
returns-then-status-ne0 c = rw (ne_eqb _ _ c.if-status-ne0.true) refl

pub returns-then-not-verified : goal.returns-then-not-verified
unfolding confirm_confirmed
returns-then-not-verified c = rw (eq-eqb _ _ c.if-status-ne0.false, holds-not-true _ (ap not c.if-not-verified.true)) refl

pub returns : goal.returns
unfolding confirm_confirmed
returns c = rw (eq-eqb _ _ c.if-status-ne0.false, holds-not-false _ (ap not c.if-not-verified.false)) refl
