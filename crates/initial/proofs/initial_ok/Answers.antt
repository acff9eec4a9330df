use mathlib.Core.Path.{ap}
use native.Mathlib.Omega.{arith}
use Rattle.record.specs.declared.Form.{Form}
use Rattle.initial.specs.Initial.{initial_ok}
use Rattle.initial.proofs.initial_ok.Goals as goal

pub settings_ok-settings-requires : goal.settings_ok-settings-requires
settings_ok-settings-requires c = omega (arith, ap (λ (f : Form). f.groups) c.wide-form.ensures)

pub returns : goal.returns
unfolding initial_ok
returns c = cc
