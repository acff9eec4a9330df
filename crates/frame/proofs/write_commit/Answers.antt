-- `frame::write_commit` meets its contract: each branch by its law of Drawing.
use Rattle.frame.proofs.Drawing.{commit-unlisted, commit-token, commit-unfit, commit-drawn}
use Rattle.frame.proofs.write_commit.Goals as goal

pub returns-then-not-listed : goal.returns-then-not-listed
returns-then-not-listed c = commit-unlisted _ _ _ _ _ _ c.is_listed-listed.ensures (c.if-not-listed.true)

pub returns-then-token-gt-TOKEN : goal.returns-then-token-gt-TOKEN
returns-then-token-gt-TOKEN c = commit-token _ _ _ _ _ _ c.is_listed-listed.ensures (c.if-not-listed.false) c.if-token-gt-TOKEN.true

pub returns-then-commit-n : goal.returns-then-commit-n
returns-then-commit-n c = commit-unfit _ _ _ _ _ _ c.is_listed-listed.ensures _ (c.if-not-listed.false) c.if-token-gt-TOKEN.false c.commit_length-n.ensures.0 c.if-commit-n.true

pub returns : goal.returns
returns c = commit-drawn _ _ _ _ _ _ c.is_listed-listed.ensures _ (c.if-not-listed.false) c.if-token-gt-TOKEN.false c.commit_length-n.ensures.0 _ _ c.if-commit-n.false c.write_body.ensures
