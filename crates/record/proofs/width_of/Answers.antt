use mathlib.Core.Path.{sym, ap, subst}
use Prim.Native.Nat.{◌≤◌}
use Rattle.groups.specs.Groups.{width}
use Rattle.record.specs.declared.Form.{Form}
use Rattle.record.proofs.Laws.{form-width}
use Rattle.record.proofs.width_of.Goals as goal

pub returns : goal.returns
returns c = (ap (λ (f : Form). f.width) c.form_of-form.ensures, subst (λ (f : Form). f.width ≤ width) (sym c.form_of-form.ensures) (form-width _))
