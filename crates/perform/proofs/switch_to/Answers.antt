use mathlib.Core.Path.{refl}
use Rattle.perform.proofs.Runs.{window-within, switch-to-law}
use borrow.Author.Rules.{rules}
use Rattle.perform.proofs.switch_to.Goals as goal

pub switch_run-requires : goal.switch_run-requires
switch_run-requires c = let r = c.requires.0 in (r.paced, (search rules, (c.requires.1, window-within _ _ c.link_at-at.ensures _ r.size _ r.sync)))

pub returns : goal.returns
returns c = switch-to-law _ _ c.link_at-at.ensures _ c.requires.0.size _ c.switch_run.new.r _ _ _ _ _ c.switch_run.ensures c.commit_frame-commit.ensures refl (search rules)
