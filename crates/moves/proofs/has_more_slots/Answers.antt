use mathlib.Core.Path.{ap}
use lib.Dec.{ltb}
use Rattle.record.specs.declared.Form.{Form}
use Rattle.moves.proofs.has_more_slots.Goals as goal

pub returns : goal.returns
returns c = ap (λ (f : Form). ltb f.slots c.args.h.geometry.slots) c.wide-form.ensures
