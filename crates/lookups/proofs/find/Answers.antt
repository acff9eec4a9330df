use Rattle.std.proofs.Common.{arith, sym, ◌∙◌}
use Rattle.causes.proofs.Laws.{handed-on}
use Rattle.table.proofs.Laws.{enters}
use Rattle.lookups.proofs.Laws.{none-found, offset-refused, offset-absent, offset_at, offset-small}
use Rattle.lookups.proofs.find.Goals as goal

pub record_at-at-requires : goal.record_at-at-requires
record_at-at-requires c = let e = enters _ _ _ (sym c.enter.ensures ∙ c.in_ok-header.was) in
    (c.width_of-w.ensures.1, omega (arith, offset-small _ _ _ e _ c.in-Some.is c.width_of-w.result c.width_of-w.ensures.1))

pub overflow_cast-result : goal.overflow_cast-result
overflow_cast-result c = let e = enters _ _ _ (sym c.enter.ensures ∙ c.in_ok-header.was) in
    omega (arith, c.record_at-at.ensures, offset-small _ _ _ e _ c.in-Some.is c.width_of-w.result c.width_of-w.ensures.1)

pub returns-in_err-header : goal.returns-in_err-header
returns-in_err-header c = offset-refused _ _ _ _ (handed-on _ _ c.from_residual.ensures.1) (sym c.enter.ensures ∙ c.in_err-header.was)

pub returns-in_default : goal.returns-in_default
returns-in_default c = offset-absent _ _ _ (enters _ _ _ (sym c.enter.ensures ∙ c.in_ok-header.was)) (none-found _ c.in_default.not-Some)

pub returns : goal.returns
returns c = offset_at _ _ _ (enters _ _ _ (sym c.enter.ensures ∙ c.in_ok-header.was)) _ c.in-Some.is _ c.width_of-w.ensures.0 _ c.record_at-at.ensures
