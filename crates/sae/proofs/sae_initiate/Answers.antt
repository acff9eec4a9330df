-- `sae::sae_initiate` meets its contract: each return by its law of Laws.
use Rattle.answers.specs.Answers.{told}
use Rattle.sae.proofs.Laws.{replied}
use Rattle.sae.proofs.sae_initiate.Goals as goal

pub returns : goal.returns
returns c = replied (told c.initiate-a.result) _ _ _ _ _ c.initiate-a.ensures c.reply.ensures.0 c.reply.ensures.1
