use Rattle.groups.proofs.Laws.{halves-all}
use borrow.Author.Rules.{rules}
use Rattle.groups.proofs.marks_from.Goals as goal

pub returns-then-n-gt7 : goal.returns-then-n-gt7
returns-then-n-gt7 c = halves-all _ _ (search rules) c.if-n-gt7.true
