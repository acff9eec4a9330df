use Rattle.message.specs.Received.{message_in}
use Rattle.perform.proofs.Repeats.{reply-token-law}
use borrow.Author.Rules.{rules}
use Rattle.perform.proofs.reply_token.Goals as goal

pub returns : goal.returns
returns c = reply-token-law _ _ c.link_at-at.ensures _ c.args.s.now c.store_token.new.r _ (message_in c.args.heard.now) _ _
    c.token-token.ensures c.store_token.ensures c.requires.size (search rules) c.repeat_commit.ensures
