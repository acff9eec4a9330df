use Rattle.std.proofs.Common.{sym, ◌∙◌}
use Rattle.causes.proofs.Laws.{handed-on}
use Rattle.table.proofs.Laws.{looked, looked-sized}
use Rattle.lookups.proofs.Laws.{asks-refused, asks-least}
use Rattle.lookups.proofs.next_deadline.Goals as goal

pub left_below-left-requires : goal.left_below-left-requires
left_below-left-requires c = (looked-sized _ c.in_ok-header.header (looked _ _ (sym c.check.ensures ∙ c.in_ok-header.was)) _ c.width_of-w.ensures.0 c.width_of-w.ensures.1).reaches

pub returns-in_err-header : goal.returns-in_err-header
returns-in_err-header c = asks-refused _ _ _ _ (handed-on _ _ c.from_residual.ensures.1) (sym c.check.ensures ∙ c.in_err-header.was)

pub returns : goal.returns
returns c = asks-least _ _ c.in_ok-header.header (looked _ _ (sym c.check.ensures ∙ c.in_ok-header.was)) _ c.left_below-left.ensures
