use Rattle.std.proofs.Common.{refl}
use Rattle.rules.specs.Book.{expired, t1_due}
use Rattle.deadlines.proofs.is_expired.Goals as goal

pub returns : goal.returns
unfolding expired t1_due
returns c = rw (c.is_due-late.ensures, c.t1-at.ensures, c.finished-finished.ensures, c.t0_due-early.ensures) refl
