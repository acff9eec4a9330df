use Rattle.soundness.specs.Soundness.{settings_ok}
use Rattle.soundness.proofs.settings_ok.Goals as goal

pub returns : goal.returns
unfolding settings_ok
returns c = cc
