use Rattle.perform.proofs.Runs.{sync-within, switch-run-law}
use borrow.Author.Rules.{rules}
use Rattle.perform.proofs.switch_run.Goals as goal

pub t0_at-at-requires : goal.t0_at-at-requires
t0_at-at-requires c = (c.requires.0, sync-within _ _ _ _ c.get8-sync.ensures c.requires.1.1.1)

pub returns : goal.returns
returns c = switch-run-law _ _ _ _ _ _ _ _ _ _ _ _ c.get8-sync.ensures c.t0_at-at.ensures c.put8.ensures c.put16.ensures c.put32.ensures c.copy_in.ensures
    c.requires.1.0 c.requires.1.1.0 (search rules) (search rules) (search rules)
