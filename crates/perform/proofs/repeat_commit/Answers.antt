use Rattle.perform.proofs.Repeats.{repeat-commit-law}
use Rattle.perform.proofs.repeat_commit.Goals as goal

pub returns : goal.returns
returns c = repeat-commit-law _ _ _ _ _ _ _ _ c.group-group.ensures c.sc-sc.ensures c.commit_frame-commit.ensures c.retransmit.ensures
