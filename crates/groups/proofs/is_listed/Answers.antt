use Rattle.std.proofs.Common.{sym, ap, ◌∙◌, is_some}
use Rattle.groups.proofs.Laws.{listed-place}
use Rattle.groups.proofs.is_listed.Goals as goal

pub returns : goal.returns
returns c = c.is_some.ensures ∙ ap (λ f. is_some f) c.place_of.ensures ∙ sym (listed-place _ _)
