use Rattle.soundness.proofs.Tests.{tail_all, tail-stored}
use Rattle.record_soundness.proofs.zero_tail.Goals as goal

pub returns-then-n-eq0 : goal.returns-then-n-eq0
returns-then-n-eq0 c = tail_all _ _ _ _ _ c.if-n-eq0.true c.zero_part.ensures

pub returns : goal.returns
returns c = tail-stored c.args.s.now c.args.at c.args.n c.args.m _ c.zero_past.ensures
