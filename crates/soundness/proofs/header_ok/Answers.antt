use mathlib.Core.Path.{sym, subst}
use Prim.Native.Nat.{◌≤◌}
use Rattle.record.specs.declared.Form.{Form}
use Rattle.soundness.specs.Soundness.{header_ok}
use Rattle.record.proofs.Laws.{form-groups}
use Rattle.soundness.proofs.header_ok.Goals as goal

pub settings_ok-settings-requires : goal.settings_ok-settings-requires
settings_ok-settings-requires c = subst (λ (f : Form). f.groups ≤ 3) (sym c.form_of-form.ensures) (form-groups _)

pub returns : goal.returns
unfolding header_ok
returns c = cc
