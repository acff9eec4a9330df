use Rattle.decide.proofs.Rungs.{same-scalar-law}
use Rattle.decide.proofs.same_scalar.Goals as goal

pub returns : goal.returns
returns c = same-scalar-law _ _ _ _ _ _ c.scalar_length-n.ensures.0 c.link_peer-theirs.ensures.1 c.same_front.ensures
