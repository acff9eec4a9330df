-- `sae::frame_octets` meets its contract: each return by its law of Laws.
use Rattle.sae.proofs.Laws.{frame-laid}
use mathlib.Core.Path.{refl}
use Rattle.sae.proofs.frame_octets.Goals as goal

pub returns : goal.returns
returns c = frame-laid c.args.f _ _ _ _ _ refl c.put16.ensures c.put16-2.ensures c.put16-3.ensures c.put16-4.ensures
