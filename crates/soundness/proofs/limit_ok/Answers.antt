use Rattle.soundness.proofs.Laws.{limit-one}
use Rattle.soundness.proofs.limit_ok.Goals as goal

pub returns : goal.returns
returns c = limit-one _
