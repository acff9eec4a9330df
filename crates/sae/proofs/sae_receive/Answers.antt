-- `sae::sae_receive` meets its contract: each return by its law of Laws.
use Rattle.answers.specs.Answers.{told}
use Rattle.sae.proofs.Laws.{replied}
use Rattle.sae.proofs.sae_receive.Goals as goal

pub returns : goal.returns
returns c = replied (told c.receive-a.result) _ _ _ _ _ c.receive-a.ensures c.reply.ensures.0 c.reply.ensures.1
