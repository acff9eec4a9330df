use Rattle.soundness.specs.Soundness.{bounds_ok}
use Rattle.soundness.proofs.bounds_ok.Goals as goal

pub returns : goal.returns
unfolding bounds_ok
returns c = cc
