use Rattle.record.proofs.Laws.{counts-law}
use Rattle.record.proofs.set_counts.Goals as goal

pub returns : goal.returns
returns c = counts-law c.args.t.now _ _ _ c.args.n c.requires c.put16.ensures c.put16-2.ensures c.set_good.ensures
