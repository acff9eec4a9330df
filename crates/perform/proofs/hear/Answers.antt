use Rattle.perform.proofs.Repeats.{hear-law}
use borrow.Author.Rules.{rules}
use Rattle.perform.proofs.hear.Goals as goal

pub returns : goal.returns
returns c = hear-law _ _ _ c.link_at-at.ensures c.record_size-end.ensures _ _ _ _ _ _ c.requires.0 (search rules) c.hear_link.ensures c.say_frames.ensures
