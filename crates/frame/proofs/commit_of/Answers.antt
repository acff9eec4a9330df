-- `frame::commit_of` meets its contract: its answers by laws of Laws.
use Rattle.frame.proofs.Laws.{commit-past, commit-rest, commit-whole}
use borrow.Author.Rules.{rules}
use Rattle.frame.proofs.commit_of.Goals as goal

pub returns-then-all-lt-HEAD : goal.returns-then-all-lt-HEAD
returns-then-all-lt-HEAD c = commit-past _ _ _ (search rules)

pub returns-then-all-token : goal.returns-then-all-token
returns-then-all-token c = commit-past _ _ _ (search rules)

pub returns-then-all-at : goal.returns-then-all-at
returns-then-all-at c = commit-rest _ _ _ _ c.commit_length-n.ensures.0 (search rules) c.if-all-at.true

pub returns : goal.returns
returns c = commit-whole _ _ _ _ _ c.commit_length-n.ensures.0 c.part_at.ensures
