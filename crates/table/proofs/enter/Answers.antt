use Rattle.std.proofs.Common.{ap, not, sym, ◌∙◌}
use Rattle.table.proofs.Laws.{looked, looked-sized, entering-refused, entering-unusable, entering-found}
use Rattle.causes.proofs.Laws.{handed-on}
use Rattle.table.proofs.enter.Goals as goal

pub returns-then-not-is_usable : goal.returns-then-not-is_usable
returns-then-not-is_usable c = entering-unusable _ _ _ _ (looked _ _ (sym c.check.ensures ∙ c.in_ok-header.was)) c.is_usable.ensures (ap not c.if-not-is_usable.true)

pub find-slot-requires : goal.find-slot-requires
find-slot-requires c = looked-sized _ c.in_ok-header.header (looked _ _ (sym c.check.ensures ∙ c.in_ok-header.was)) _ c.width_of-w.ensures.0 c.width_of-w.ensures.1

pub returns : goal.returns
returns c = entering-found _ _ _ _ _ (looked _ _ (sym c.check.ensures ∙ c.in_ok-header.was)) c.is_usable.ensures (ap not c.if-not-is_usable.false) c.find-slot.ensures

pub returns-in_err-header : goal.returns-in_err-header
returns-in_err-header c = handed-on _ _ c.from_residual.ensures.1 ∙ entering-refused _ _ _ (sym c.check.ensures ∙ c.in_err-header.was)
