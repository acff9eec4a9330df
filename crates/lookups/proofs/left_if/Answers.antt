use Rattle.std.proofs.Common.{refl}
use borrow.Author.Tests.{not-true, not-false}
use Rattle.std.proofs.Common.{ap}
use Rattle.std.specs.Prelude.{not}
use Rattle.lookups.proofs.left_if.Goals as goal

pub returns-then-not-counts : goal.returns-then-not-counts
returns-then-not-counts c = rw (not-true c.args.counts (ap not c.if-not-counts.true)) refl

pub returns : goal.returns
returns c = rw (not-false c.args.counts (ap not c.if-not-counts.false)) c.time_left.ensures
