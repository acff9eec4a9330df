use mathlib.Core.Path.{refl}
use Rattle.soundness.specs.Soundness.{period_ok}
use Rattle.soundness.proofs.period_ok.Goals as goal

pub returns : goal.returns
unfolding period_ok
returns c = refl
