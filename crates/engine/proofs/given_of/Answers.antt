use Rattle.engine.proofs.Starts.{given-law}
use Rattle.engine.proofs.given_of.Goals as goal

pub returns : goal.returns
returns c = given-law c.args.h c.args.address c.args.time c.args.expected c.args.verified _ _ c.is_crowded-crowded.ensures c.clock_of-clock.ensures
