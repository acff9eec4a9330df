use native.Mathlib.Omega.{arith}
use Rattle.table.proofs.Octets.{number-at-law, number_small}
use Rattle.table.proofs.number_at.Goals as goal

pub returns : goal.returns
returns c = (number-at-law c.args.t.now c.args.w c.args.k _ c.requires c.record_at-a.ensures _ c.get48.ensures, number_small c.args.t.now c.args.w c.args.k _ c.requires c.record_at-a.ensures _ (λ i. omega (arith, c.type_inv.t i)) c.get48.ensures)
