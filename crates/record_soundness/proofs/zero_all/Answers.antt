use Rattle.soundness.proofs.Tests.{zero-whole, zero-length}
use Rattle.record_soundness.proofs.zero_all.Goals as goal

pub returns-then-n-narrow : goal.returns-then-n-narrow
returns-then-n-narrow c = zero-whole _ _ _ c.if-n-narrow.true c.zero_part.ensures

pub returns-then-n-wide : goal.returns-then-n-wide
returns-then-n-wide c = zero-whole _ _ _ c.if-n-wide.true c.zero_part-then-n-wide.ensures

pub returns : goal.returns
returns c = zero-length _ _ c.zero_past.ensures
