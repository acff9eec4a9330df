-- `sae::frames_octets` meets its contract: each return by its law of Laws.
use Rattle.sae.proofs.Laws.{frames-none, frames-one, frames-two}
use Rattle.sae.proofs.frames_octets.Goals as goal

pub returns-in-None : goal.returns-in-None
returns-in-None c = frames-none _ c.in-None.is

pub returns-in-One : goal.returns-in-One
returns-in-One c = frames-one _ _ _ _ c.in-One.is c.frame_octets-first.ensures c.framed.ensures

pub returns-in-Two : goal.returns-in-Two
returns-in-Two c = frames-two _ _ _ _ _ _ c.in-Two.is c.frame_octets-first-in-Two.ensures c.frame_octets-second.ensures c.framed-in-Two.ensures
