use Rattle.std.proofs.Common.{◌∙◌, sym, subst, ◌≤◌, Some}
use Rattle.message.specs.declared.View.{View}
use Rattle.message.proofs.Laws.{read-token, view-made, view-none}
use Rattle.message.proofs.read.Goals as goal

pub view_of-requires : goal.view_of-requires
view_of-requires c = read-token _ _ (Some _) (sym c.in_ok-b.was ∙ c.read.ensures)

pub returns-clause-view : goal.returns-clause-view
returns-clause-view c = view-made _ _ _ _ _ c.read.ensures c.in_ok-b.was c.view_of.ensures

pub returns-clause-short : goal.returns-clause-short
returns-clause-short c = subst (λ (v : View). v.toklen ≤ 256) (sym c.view_of.ensures) (read-token _ _ (Some _) (sym c.in_ok-b.was ∙ c.read.ensures))

pub returns-in_err-b-clause-view : goal.returns-in_err-b-clause-view
returns-in_err-b-clause-view c = c.from_residual.ensures ∙ view-none _ _ _ c.read.ensures c.in_err-b.was
