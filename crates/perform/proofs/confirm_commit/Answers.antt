use Rattle.message.specs.Received.{message_in}
use Rattle.perform.proofs.Performs.{confirm-law, commit-storable}
use borrow.Author.Rules.{rules}
use Rattle.perform.proofs.confirm_commit.Goals as goal

pub form_pair-requires : goal.form_pair-requires
form_pair-requires c = let r = c.requires in
    let t = commit-storable _ _ (message_in c.args.heard.now) c.commit-theirs.ensures.1 (search rules) in
    (r.paced, (r.size, (r.most, (c.commit-theirs.ensures.0, t))))

pub returns : goal.returns
returns c = confirm-law _ _ _ _ _ (message_in c.args.heard.now) _ _ _ c.commit-theirs.ensures.1 c.confirm_frame-confirm.ensures c.form_pair.ensures
