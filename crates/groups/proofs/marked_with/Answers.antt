use mathlib.Core.Path.{sym, ◌∙◌}
use Rattle.groups.proofs.Laws.{mark-fits}
use Rattle.groups.specs.Groups.{mark}
use borrow.Author.Rules.{rules}
use Rattle.groups.proofs.marked_with.Goals as goal

pub returns-then-is_marked : goal.returns-then-is_marked
unfolding mark
returns-then-is_marked c = simp (sym c.is_marked.ensures ∙ c.if-is_marked.true)

pub overflow_add-result : goal.overflow_add-result
overflow_add-result c = record { fits = mark-fits c.args.rejected c.args.i c.bit_of.result (search rules) c.requires c.bit_of.ensures (sym c.is_marked.ensures ∙ c.if-is_marked.false) }

pub returns : goal.returns
unfolding mark
returns c = simp (sym c.is_marked.ensures ∙ c.if-is_marked.false, c.bit_of.ensures)
