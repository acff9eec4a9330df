use Rattle.table.proofs.Octets.{address-at-law}
use Rattle.table.proofs.address_at.Goals as goal

pub returns : goal.returns
returns c = address-at-law c.args.t.now c.args.w c.args.k _ c.requires c.record_at-a.ensures _ c.take.ensures
