use Rattle.perform.proofs.Repeats.{hear-link-law}
use borrow.Author.Rules.{rules}
use Rattle.perform.proofs.hear_link.Goals as goal

pub returns : goal.returns
returns c = hear-link-law _ _ _ _ _ _ c.requires (search rules) (search rules) c.put8.ensures c.put16.ensures
