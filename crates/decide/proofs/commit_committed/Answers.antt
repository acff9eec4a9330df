use mathlib.Core.Path.{refl}
use borrow.Author.Tests.{eq-eqb, ne_eqb}
use Rattle.rules.specs.Book.{commit_committed}
use Rattle.rules.proofs.Branches.{holds-not-true, holds-not-false, answered-true, answered-false}
use Rattle.decide.proofs.Rungs.{like-read, unlike-read}
use Rattle.std.proofs.Common.{ap}
use Rattle.std.specs.Prelude.{not}
use Rattle.decide.proofs.commit_committed.Goals as goal

pub returns-then-status-eq76 : goal.returns-then-status-eq76
unfolding commit_committed
returns-then-status-eq76 c = rw (eq-eqb _ _ c.if-status-eq76.true, ← c.group-our_group.ensures) c.for_ours.ensures

pub returns-then-status-eq77 : goal.returns-then-status-eq77
unfolding commit_committed
returns-then-status-eq77 c = rw (ne_eqb _ _ c.if-status-eq76.false, eq-eqb _ _ c.if-status-eq77.true, ← c.group-our_group.ensures) c.for_ours-then-status-eq77.ensures

pub returns-then-status-ne0 : goal.returns-then-status-ne0
unfolding commit_committed
returns-then-status-ne0 c = rw (ne_eqb _ _ c.if-status-eq76.false, ne_eqb _ _ c.if-status-eq77.false, ne_eqb _ _ c.if-status-ne0.true) refl

pub returns-then-not-listed : goal.returns-then-not-listed
unfolding commit_committed
returns-then-not-listed c = rw (ne_eqb _ _ c.if-status-eq76.false, ne_eqb _ _ c.if-status-eq77.false, eq-eqb _ _ c.if-status-ne0.false, holds-not-true _ (ap not c.if-not-listed.true)) refl

pub returns-then-is_higher : goal.returns-then-is_higher
unfolding commit_committed
returns-then-is_higher c = rw (ne_eqb _ _ c.if-status-eq76.false, ne_eqb _ _ c.if-status-eq77.false, eq-eqb _ _ c.if-status-ne0.false, holds-not-false _ (ap not c.if-not-listed.false), unlike-read _ _ _ c.group-our_group.ensures c.if-group-our_group.true, answered-true _ _ c.is_higher.ensures c.if-is_higher.true) refl

pub returns-then-not-verified : goal.returns-then-not-verified
unfolding commit_committed
returns-then-not-verified c = rw (ne_eqb _ _ c.if-status-eq76.false, ne_eqb _ _ c.if-status-eq77.false, eq-eqb _ _ c.if-status-ne0.false, holds-not-false _ (ap not c.if-not-listed.false), unlike-read _ _ _ c.group-our_group.ensures c.if-group-our_group.true, answered-false _ _ c.is_higher.ensures c.if-is_higher.false, holds-not-true _ (ap not c.if-not-verified.true)) refl

pub returns-then-equals_fresh : goal.returns-then-equals_fresh
unfolding commit_committed
returns-then-equals_fresh c = rw (ne_eqb _ _ c.if-status-eq76.false, ne_eqb _ _ c.if-status-eq77.false, eq-eqb _ _ c.if-status-ne0.false, holds-not-false _ (ap not c.if-not-listed.false), unlike-read _ _ _ c.group-our_group.ensures c.if-group-our_group.true, answered-false _ _ c.is_higher.ensures c.if-is_higher.false, holds-not-false _ (ap not c.if-not-verified.false), answered-true _ _ c.equals_fresh.ensures c.if-equals_fresh.true) refl

pub returns-then-group-our_group : goal.returns-then-group-our_group
unfolding commit_committed
returns-then-group-our_group c = rw (ne_eqb _ _ c.if-status-eq76.false, ne_eqb _ _ c.if-status-eq77.false, eq-eqb _ _ c.if-status-ne0.false, holds-not-false _ (ap not c.if-not-listed.false), unlike-read _ _ _ c.group-our_group.ensures c.if-group-our_group.true, answered-false _ _ c.is_higher.ensures c.if-is_higher.false, holds-not-false _ (ap not c.if-not-verified.false), answered-false _ _ c.equals_fresh.ensures c.if-equals_fresh.false) refl

pub returns-then-equals_own : goal.returns-then-equals_own
unfolding commit_committed
returns-then-equals_own c = rw (ne_eqb _ _ c.if-status-eq76.false, ne_eqb _ _ c.if-status-eq77.false, eq-eqb _ _ c.if-status-ne0.false, holds-not-false _ (ap not c.if-not-listed.false), like-read _ _ _ c.group-our_group.ensures c.if-group-our_group.false, answered-true _ _ c.equals_own.ensures c.if-equals_own.true) refl

pub returns-then-not-verified-2 : goal.returns-then-not-verified-2
unfolding commit_committed
returns-then-not-verified-2 c = rw (ne_eqb _ _ c.if-status-eq76.false, ne_eqb _ _ c.if-status-eq77.false, eq-eqb _ _ c.if-status-ne0.false, holds-not-false _ (ap not c.if-not-listed.false), like-read _ _ _ c.group-our_group.ensures c.if-group-our_group.false, answered-false _ _ c.equals_own.ensures c.if-equals_own.false, holds-not-true _ (ap not c.if-not-verified-2.true)) refl

pub returns : goal.returns
unfolding commit_committed
returns c = rw (ne_eqb _ _ c.if-status-eq76.false, ne_eqb _ _ c.if-status-eq77.false, eq-eqb _ _ c.if-status-ne0.false, holds-not-false _ (ap not c.if-not-listed.false), like-read _ _ _ c.group-our_group.ensures c.if-group-our_group.false, answered-false _ _ c.equals_own.ensures c.if-equals_own.false, holds-not-false _ (ap not c.if-not-verified-2.false)) refl
