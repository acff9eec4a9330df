use Rattle.decide.proofs.Rungs.{same-commit-law}
use borrow.Author.Rules.{rules}
use Rattle.decide.proofs.equals_fresh.Goals as goal

pub returns : goal.returns
returns c =
    same-commit-law _ _ _ _ _ _ (search rules) c.commit-commit.ensures.0 c.commit-commit.ensures.1 (search rules) c.fresh_for-own.ensures.0 c.fresh_for-own.ensures.1 c.same_front.ensures
