-- `sae::sae_expire` meets its contract: each return by its law of Laws.
use Rattle.answers.specs.Answers.{told_if_due}
use Rattle.sae.proofs.Laws.{replied}
use Rattle.sae.proofs.sae_expire.Goals as goal

pub returns : goal.returns
returns c = replied (told_if_due c.expire-a.result) _ _ _ _ _ c.expire-a.ensures c.reply_if_due.ensures.0 c.reply_if_due.ensures.1
