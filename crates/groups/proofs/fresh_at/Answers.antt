use mathlib.Core.Path.{refl}
use Rattle.groups.proofs.Fresh.{fresh-at-law}
use Rattle.groups.proofs.fresh_at.Goals as goal

pub returns : goal.returns
returns c = fresh-at-law c.args.w c.args.i _ c.args.fresh.now c.requires.0 c.requires.1 refl
