use Rattle.groups.proofs.Fresh.{fresh-short, fresh-long, stock-small}
use borrow.Author.Rules.{rules}
use Rattle.groups.proofs.fresh_ok.Goals as goal

pub overflow_mul-w : goal.overflow_mul-w
overflow_mul-w c = search (rules, stock-small c.args.w _ c.requires.1.0 c.requires.1.1)

pub returns-then-fresh-w : goal.returns-then-fresh-w
returns-then-fresh-w c = fresh-short _ _ _ c.if-fresh-w.true

pub returns : goal.returns
returns c = fresh-long _ _ _ _ c.if-fresh-w.false c.tails_ok.ensures
