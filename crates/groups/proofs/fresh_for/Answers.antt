use mathlib.Core.Path.{ap, ◌∙◌}
use Rattle.groups.specs.Groups.{fresh_for, fresh_at}
use Rattle.groups.proofs.Laws.{room-below}
use borrow.Author.Rules.{rules}
use Rattle.groups.proofs.fresh_for.Goals as goal

pub fresh_at-requires : goal.fresh_at-requires
fresh_at-requires c = search (rules, room-below c.args.w _ _ c.index_of-i.ensures.1)

pub returns : goal.returns
unfolding fresh_for
returns c = (c.fresh_at.ensures.0, c.fresh_at.ensures.1 ∙ ap (fresh_at _) c.index_of-i.ensures.0)
