use Rattle.sae.proofs.Laws.{due-answered, due-none, due-refused}
use Rattle.sae.proofs.reply_if_due.Goals as goal

pub returns-in-Ok-Some : goal.returns-in-Ok-Some
returns-in-Ok-Some c = due-answered _ _ _ _ c.args.answer.now c.in-Ok-Some.is (rw c.in-Ok-Some.is at c.in-Ok-Some.field-0-is) c.answer_octets.ensures

pub returns-in-Ok-None : goal.returns-in-Ok-None
returns-in-Ok-None c = due-none _ _ _ c.args.answer.now c.in-Ok-None.is (rw c.in-Ok-None.is at c.in-Ok-None.field-0-is) c.none_due_octets.ensures

pub returns-in-Err : goal.returns-in-Err
returns-in-Err c = due-refused _ _ _ _ c.in-Err.is c.from.ensures
