use Rattle.table.proofs.Octets.{used-at-law}
use Rattle.table.proofs.used_at.Goals as goal

pub returns : goal.returns
returns c = used-at-law c.args.t.now c.args.w c.args.k _ c.requires c.record_at-a.ensures _ c.get8.ensures
