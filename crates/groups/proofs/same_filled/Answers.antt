use Rattle.groups.proofs.Laws.{filled-same}
use borrow.Author.Rules.{rules}
use Rattle.groups.proofs.same_filled.Goals as goal

pub returns : goal.returns
returns c = filled-same _ _ _ _ _ _ _ c.requires.0 (search rules) c.requires.1.1.0 c.requires.1.1.1 c.same_part-like.ensures c.zero_part.ensures
