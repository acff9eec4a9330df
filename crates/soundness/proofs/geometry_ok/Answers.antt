use Rattle.soundness.specs.Soundness.{geometry_ok}
use Rattle.soundness.proofs.geometry_ok.Goals as goal

pub returns : goal.returns
unfolding geometry_ok
returns c = cc
