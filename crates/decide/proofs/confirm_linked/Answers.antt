use mathlib.Core.Path.{refl}
use borrow.Author.Tests.{eq-eqb, ne_eqb}
use Rattle.rules.specs.Book.{confirm_linked}
use Rattle.rules.proofs.Branches.{holds-not-true, holds-not-false}
use Rattle.decide.proofs.Rungs.{read_above, read-within, over-read, under-read}
use Rattle.std.proofs.Common.{ap}
use Rattle.std.specs.Prelude.{not}
use Rattle.decide.proofs.confirm_linked.Goals as goal

pub returns-then-status-ne0 : goal.returns-then-status-ne0
unfolding confirm_linked
returns-then-status-ne0 c = rw (ne_eqb _ _ c.if-status-ne0.true) refl

pub returns-then-sync-limit : goal.returns-then-sync-limit
unfolding confirm_linked
returns-then-sync-limit c = rw (eq-eqb _ _ c.if-status-ne0.false, read_above _ _ _ c.link_sync-sync.ensures c.if-sync-limit.true) refl

pub returns-then-counter-rc : goal.returns-then-counter-rc
unfolding confirm_linked
returns-then-counter-rc c = rw (eq-eqb _ _ c.if-status-ne0.false, read-within _ _ _ c.link_sync-sync.ensures c.if-sync-limit.false, under-read _ _ _ c.rc-rc.ensures c.if-counter-rc.true) refl

pub returns-then-not-verified : goal.returns-then-not-verified
unfolding confirm_linked
returns-then-not-verified c = rw (eq-eqb _ _ c.if-status-ne0.false, read-within _ _ _ c.link_sync-sync.ensures c.if-sync-limit.false, over-read _ _ _ c.rc-rc.ensures c.if-counter-rc.false, holds-not-true _ (ap not c.if-not-verified.true)) refl

pub returns-then-counter : goal.returns-then-counter
unfolding confirm_linked
returns-then-counter c = rw (eq-eqb _ _ c.if-status-ne0.false, read-within _ _ _ c.link_sync-sync.ensures c.if-sync-limit.false, over-read _ _ _ c.rc-rc.ensures c.if-counter-rc.false, holds-not-false _ (ap not c.if-not-verified.false), eq-eqb _ _ c.if-counter.true) refl

pub returns : goal.returns
unfolding confirm_linked
returns c = rw (eq-eqb _ _ c.if-status-ne0.false, read-within _ _ _ c.link_sync-sync.ensures c.if-sync-limit.false, over-read _ _ _ c.rc-rc.ensures c.if-counter-rc.false, holds-not-false _ (ap not c.if-not-verified.false), ne_eqb _ _ c.if-counter.false) refl
