use Rattle.std.proofs.Common.{refl}
use Rattle.rules.specs.Book.{t0_due}
use Rattle.deadlines.proofs.t0_due.Goals as goal

pub returns : goal.returns
unfolding t0_due
returns c = rw (c.is_due-due.ensures, c.t0-at.ensures, c.state-state.ensures) refl
