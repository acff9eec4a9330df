use Rattle.perform.proofs.Performs.{begin-law}
use Rattle.perform.proofs.begin.Goals as goal

pub returns : goal.returns
returns c = begin-law _ _ _ _ _ _ c.args.stock.now.groups.now _ c.args.clock c.fresh_at-own.ensures.1 c.start.ensures
