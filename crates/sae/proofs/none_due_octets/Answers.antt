use Rattle.sae.proofs.Laws.{none-due-laid}
use Rattle.sae.proofs.none_due_octets.Goals as goal

pub returns : goal.returns
returns c = none-due-laid _ c.put8.ensures
