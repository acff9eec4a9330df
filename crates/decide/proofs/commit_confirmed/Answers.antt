use mathlib.Core.Path.{refl}
use borrow.Author.Tests.{eq-eqb, ne_eqb}
use Rattle.rules.specs.Book.{commit_confirmed}
use Rattle.decide.proofs.Rungs.{like-read, unlike-read, read_above, read-within}
use Rattle.decide.proofs.commit_confirmed.Goals as goal

pub returns-then-status-ne0 : goal.returns-then-status-ne0
unfolding commit_confirmed
returns-then-status-ne0 c = rw (ne_eqb _ _ c.if-status-ne0.true) refl

pub returns-then-sync-limit : goal.returns-then-sync-limit
unfolding commit_confirmed
returns-then-sync-limit c = rw (eq-eqb _ _ c.if-status-ne0.false, read_above _ _ _ c.sync-sync.ensures c.if-sync-limit.true) refl

pub returns-then-group-our_group : goal.returns-then-group-our_group
unfolding commit_confirmed
returns-then-group-our_group c = rw (eq-eqb _ _ c.if-status-ne0.false, read-within _ _ _ c.sync-sync.ensures c.if-sync-limit.false, unlike-read _ _ _ c.group-our_group.ensures c.if-group-our_group.true) refl

pub returns : goal.returns
unfolding commit_confirmed
returns c = rw (eq-eqb _ _ c.if-status-ne0.false, read-within _ _ _ c.sync-sync.ensures c.if-sync-limit.false, like-read _ _ _ c.group-our_group.ensures c.if-group-our_group.false) refl
