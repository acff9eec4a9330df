use Rattle.soundness.specs.Soundness.{own_ok}
use Rattle.soundness.proofs.own_ok.Goals as goal

pub returns : goal.returns
unfolding own_ok
returns c = cc
