use Rattle.soundness.specs.Soundness.{usable}
use Rattle.soundness.proofs.is_usable.Goals as goal

pub returns : goal.returns
unfolding usable
returns c = cc
