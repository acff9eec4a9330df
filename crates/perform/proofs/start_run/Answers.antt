use Rattle.perform.proofs.Runs.{start-run-law}
use borrow.Author.Rules.{rules}
use Rattle.perform.proofs.start_run.Goals as goal

pub returns : goal.returns
returns c = start-run-law _ c.args.r.now _ _ _ _ _ _ _ _ _ c.t0_at-at.ensures c.clear.ensures c.put8.ensures c.put16.ensures c.put32.ensures c.copy_in.ensures
    c.requires.1.0 c.requires.1.1.0 c.requires.1.1.1 (search rules) (search rules)
