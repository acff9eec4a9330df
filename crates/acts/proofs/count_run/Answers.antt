use Rattle.acts.proofs.Laws.{count_law}
use borrow.Author.Rules.{rules}
use Rattle.acts.proofs.count_run.Goals as goal

pub returns : goal.returns
returns c = count_law _ _ _ _ _ c.args.sync c.args.sc c.args.clock c.t0_at-at.result c.requires.1.0 (search rules) (search rules) (search rules) c.t0_at-at.ensures
    c.put8.ensures c.put16.ensures c.put32.ensures
