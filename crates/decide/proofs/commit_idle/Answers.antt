use mathlib.Core.Path.{refl}
use borrow.Author.Tests.{eq-eqb, ne_eqb}
use Rattle.rules.specs.Book.{commit_idle}
use Rattle.rules.proofs.Branches.{holds-true, holds-false, holds-not-true, holds-not-false, answered-true, answered-false}
use Rattle.std.proofs.Common.{ap}
use Rattle.std.specs.Prelude.{not}
use Rattle.decide.proofs.commit_idle.Goals as goal

pub returns-then-status-ne0 : goal.returns-then-status-ne0
unfolding commit_idle
returns-then-status-ne0 c = rw (ne_eqb _ _ c.if-status-ne0.true) refl

pub returns-then-not-listed : goal.returns-then-not-listed
unfolding commit_idle
returns-then-not-listed c = rw (eq-eqb _ _ c.if-status-ne0.false, holds-not-true _ (ap not c.if-not-listed.true)) refl

pub returns-then-is_linked : goal.returns-then-is_linked
unfolding commit_idle
returns-then-is_linked c = rw (eq-eqb _ _ c.if-status-ne0.false, holds-not-false _ (ap not c.if-not-listed.false), answered-true _ _ c.is_linked.ensures c.if-is_linked.true) refl

pub returns-then-lacks : goal.returns-then-lacks
unfolding commit_idle
returns-then-lacks c = rw (eq-eqb _ _ c.if-status-ne0.false, holds-not-false _ (ap not c.if-not-listed.false), answered-false _ _ c.is_linked.ensures c.if-is_linked.false, holds-true _ c.if-lacks.true) refl

pub returns-then-is_wrong : goal.returns-then-is_wrong
unfolding commit_idle
returns-then-is_wrong c = rw (eq-eqb _ _ c.if-status-ne0.false, holds-not-false _ (ap not c.if-not-listed.false), answered-false _ _ c.is_linked.ensures c.if-is_linked.false, holds-false _ c.if-lacks.false, answered-true _ _ c.is_wrong.ensures c.if-is_wrong.true) refl

pub returns-then-equals_fresh : goal.returns-then-equals_fresh
unfolding commit_idle
returns-then-equals_fresh c = rw (eq-eqb _ _ c.if-status-ne0.false, holds-not-false _ (ap not c.if-not-listed.false), answered-false _ _ c.is_linked.ensures c.if-is_linked.false, holds-false _ c.if-lacks.false, answered-false _ _ c.is_wrong.ensures c.if-is_wrong.false, answered-true _ _ c.equals_fresh.ensures c.if-equals_fresh.true) refl

pub returns-then-not-verified : goal.returns-then-not-verified
unfolding commit_idle
returns-then-not-verified c = rw (eq-eqb _ _ c.if-status-ne0.false, holds-not-false _ (ap not c.if-not-listed.false), answered-false _ _ c.is_linked.ensures c.if-is_linked.false, holds-false _ c.if-lacks.false, answered-false _ _ c.is_wrong.ensures c.if-is_wrong.false, answered-false _ _ c.equals_fresh.ensures c.if-equals_fresh.false, holds-not-true _ (ap not c.if-not-verified.true)) refl

pub returns-then-full : goal.returns-then-full
unfolding commit_idle
returns-then-full c = rw (eq-eqb _ _ c.if-status-ne0.false, holds-not-false _ (ap not c.if-not-listed.false), answered-false _ _ c.is_linked.ensures c.if-is_linked.false, holds-false _ c.if-lacks.false, answered-false _ _ c.is_wrong.ensures c.if-is_wrong.false, answered-false _ _ c.equals_fresh.ensures c.if-equals_fresh.false, holds-not-false _ (ap not c.if-not-verified.false), holds-true _ c.if-full.true) refl

pub returns : goal.returns
unfolding commit_idle
returns c = rw (eq-eqb _ _ c.if-status-ne0.false, holds-not-false _ (ap not c.if-not-listed.false), answered-false _ _ c.is_linked.ensures c.if-is_linked.false, holds-false _ c.if-lacks.false, answered-false _ _ c.is_wrong.ensures c.if-is_wrong.false, answered-false _ _ c.equals_fresh.ensures c.if-equals_fresh.false, holds-not-false _ (ap not c.if-not-verified.false), holds-false _ c.if-full.false) refl
