use Rattle.table.proofs.Octets.{state-at-law}
use Rattle.table.proofs.state_at.Goals as goal

pub returns : goal.returns
returns c = state-at-law c.args.t.now c.args.w c.args.k _ c.requires c.record_at-a.ensures _ c.get8.ensures
