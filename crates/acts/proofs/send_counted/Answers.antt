use Rattle.acts.proofs.Laws.{send-law}
use borrow.Author.Rules.{rules}
use Rattle.acts.proofs.send_counted.Goals as goal

pub returns : goal.returns
returns c = send-law _ _ c.link_at-at.ensures _ c.requires.1.0 _ _ _ _ _ _ (search rules) c.count_run.ensures c.say_frames.ensures
