use Rattle.std.proofs.Common.{ap, sym, ◌∙◌}
use Rattle.causes.proofs.Laws.{handed-on}
use Rattle.table.proofs.Laws.{enters, enters-refused}
use Rattle.answers.specs.Answers.{told}
use Rattle.engine.proofs.Headers.{entered-held}
use Rattle.engine.proofs.Starts.{start-goes, initiate-unentered, initiate-refused, initiate-went}
use Rattle.engine.proofs.initiate.Goals as goal

pub admit_start-requires : goal.admit_start-requires
admit_start-requires c = entered-held _ _ c.in_ok-entrance.entrance (enters _ _ _ (sym c.enter.ensures ∙ c.in_ok-entrance.was))

pub start-requires : goal.start-requires
start-requires c = start-goes _ _ _ c.in_ok-entrance.entrance.slot _ (entered-held _ _ c.in_ok-entrance.entrance (enters _ _ _ (sym c.enter.ensures ∙ c.in_ok-entrance.was))) (sym c.admit_start.ensures ∙ c.in_ok-f.was)

pub returns : goal.returns
returns c = initiate-went _ _ c.args.time _ _ _ (enters _ _ _ (sym c.enter.ensures ∙ c.in_ok-entrance.was)).entry _ c.admit_start.ensures _ _ c.in_ok-f.was c.start.ensures

pub returns-in_err-entrance : goal.returns-in_err-entrance
returns-in_err-entrance c = initiate-unentered _ _ c.args.time _ _ _ (enters-refused _ _ _ (sym c.enter.ensures ∙ c.in_err-entrance.was)) (ap told (handed-on _ _ c.from_residual.ensures.1))

pub returns-in_err-f : goal.returns-in_err-f
returns-in_err-f c =
    initiate-refused _ _ c.args.time _ _ _ (enters _ _ _ (sym c.enter.ensures ∙ c.in_ok-entrance.was)).entry _ c.admit_start.ensures _ c.in_err-f.was (ap told (handed-on _ _ c.from_residual-in_err-f.ensures.1))
