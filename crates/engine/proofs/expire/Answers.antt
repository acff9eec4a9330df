use Rattle.std.proofs.Common.{ap, sym, ◌∙◌, refl}
use borrow.Author.Rules.{rules}
use Rattle.causes.proofs.Laws.{handed-on}
use Rattle.table.proofs.Laws.{looked, looked-sized}
use Rattle.answers.specs.Answers.{told_if_due}
use Rattle.engine.proofs.Clocks.{expire-unsound, expire-none, expire-held, expire-at}
use Rattle.engine.proofs.expire.Goals as goal

pub due_slot-requires : goal.due_slot-requires
due_slot-requires c = looked-sized _ c.in_ok-h.h (looked _ _ (sym c.check.ensures ∙ c.in_ok-h.was)) _ c.width_of-w.ensures.0 c.width_of-w.ensures.1

pub serve-requires : goal.serve-requires
serve-requires c = expire-held _ c.args.time c.in_ok-h.h (looked _ _ (sym c.check.ensures ∙ c.in_ok-h.was)) _ c.due_slot.ensures _ c.in-Some.is

pub returns-in_default : goal.returns-in_default
returns-in_default c = expire-none _ _ c.in_ok-h.h (looked _ _ (sym c.check.ensures ∙ c.in_ok-h.was)) _ c.due_slot.ensures _ (λ i. search rules) c.in_default.is refl

pub returns : goal.returns
returns c = expire-at _ _ c.in_ok-h.h (looked _ _ (sym c.check.ensures ∙ c.in_ok-h.was)) _ c.due_slot.ensures _ _ _ c.in-Some.is c.serve.ensures

pub returns-in_err-h : goal.returns-in_err-h
returns-in_err-h c = expire-unsound _ _ _ _ (sym c.check.ensures ∙ c.in_err-h.was) (ap told_if_due (handed-on _ _ c.from_residual.ensures.1))
