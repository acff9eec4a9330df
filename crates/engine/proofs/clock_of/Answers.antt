use Rattle.engine.proofs.Starts.{clock-law}
use Rattle.engine.proofs.clock_of.Goals as goal

pub returns : goal.returns
returns c = clock-law c.args.h c.args.time _ _ c.period_of-period.ensures c.limit_of-limit.ensures
