-- `sae::parts_octets` meets its contract: each return by its law of Laws.
use Rattle.sae.proofs.Laws.{parts-laid}
use mathlib.Core.Path.{refl}
use Rattle.sae.proofs.parts_octets.Goals as goal

pub returns : goal.returns
returns c = parts-laid c.args.v _ _ _ _ _ _ _ _ _ _ _ _ c.handed_at-at.ensures c.handed_length-length.ensures c.rest_at-rest.ensures refl c.put16.ensures c.put16-2.ensures c.put16-3.ensures c.put16-4.ensures c.put32.ensures c.put32-2.ensures c.put32-3.ensures
