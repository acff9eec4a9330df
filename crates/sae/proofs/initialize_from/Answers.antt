-- `sae::initialize_from` meets its contract: each return by its law of Laws.
use mathlib.Core.Path.{refl}
use Rattle.sae.proofs.Laws.{from-reserved, from-settings}
use Rattle.std.proofs.Common.{ap}
use Rattle.std.specs.Prelude.{not}
use Rattle.sae.proofs.initialize_from.Goals as goal

pub returns-then-not-reserved_zero : goal.returns-then-not-reserved_zero
returns-then-not-reserved_zero c = from-reserved _ _ _ _ _ c.reserved_zero.ensures _ (ap not c.if-not-reserved_zero.true) refl

pub returns : goal.returns
returns c = from-settings _ _ _ _ _ c.reserved_zero.ensures c.settings_of-settings.result _ _ (ap not c.if-not-reserved_zero.false) c.settings_of-settings.ensures c.initialize.ensures
