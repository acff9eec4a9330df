use native.Mathlib.Omega.{arith}
use Rattle.table.proofs.Octets.{good-at-law}
use Rattle.table.proofs.is_good.Goals as goal

pub returns : goal.returns
returns c = good-at-law c.args.t.now c.args.w c.args.k _ c.requires c.record_at-a.ensures _ _ (λ i. omega (arith, c.type_inv.t i)) c.link_at-l.ensures c.get16.ensures
