-- `sae::reply` meets its contract: each return by its law of Laws.
use Rattle.sae.proofs.Laws.{reply-answered, reply-refused}
use Rattle.sae.proofs.reply.Goals as goal

pub returns-in-Ok : goal.returns-in-Ok
returns-in-Ok c = reply-answered _ _ _ c.args.answer.now c.in-Ok.is c.answer_octets.ensures

pub returns-in-Err : goal.returns-in-Err
returns-in-Err c = reply-refused _ _ _ _ c.in-Err.is c.from.ensures
