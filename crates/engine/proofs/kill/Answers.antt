use Rattle.std.proofs.Common.{ap, sym, ◌∙◌, refl, subst, Option, Some, ℕ}
use Rattle.causes.proofs.Laws.{handed-on}
use Rattle.table.proofs.Laws.{enters, enters-refused}
use Rattle.answers.specs.Answers.{told}
use Rattle.engine.specs.InSlot.{Held}
use Rattle.engine.proofs.Headers.{entered-held}
use Rattle.engine.proofs.Starts.{kill-unentered, kill-absent, kill-freed}
use Rattle.engine.proofs.kill.Goals as goal

pub free-requires : goal.free-requires
free-requires c =
    subst (λ (f : Option ℕ). Held c.args.t.now c.in_ok-entrance.entrance.header f) c.in-Some.is (entered-held _ _ c.in_ok-entrance.entrance (enters _ _ _ (sym c.enter.ensures ∙ c.in_ok-entrance.was)))

pub returns : goal.returns
returns c = kill-freed _ _ _ _ _ _ (enters _ _ _ (sym c.enter.ensures ∙ c.in_ok-entrance.was)).entry c.in-Some.is c.free.ensures

pub returns-in_default : goal.returns-in_default
returns-in_default c = kill-absent _ _ _ _ (enters _ _ _ (sym c.enter.ensures ∙ c.in_ok-entrance.was)).entry c.in_default.is refl

pub returns-in_err-entrance : goal.returns-in_err-entrance
returns-in_err-entrance c = kill-unentered _ _ _ _ (enters-refused _ _ _ (sym c.enter.ensures ∙ c.in_err-entrance.was)) (ap told (handed-on _ _ c.from_residual.ensures.1))
