use Rattle.std.proofs.Common.{ap}
use Rattle.causes.proofs.Laws.{handed-on}
use Rattle.answers.specs.Answers.{quiet, telling, told}
use Rattle.engine.proofs.Starts.{quiet-told, initialize-done, initialize-refused}
use Rattle.engine.proofs.initialize.Goals as goal

pub returns : goal.returns
returns c = initialize-done _ _ _ _ _ _ c.write_initial.ensures.0 c.write_initial.ensures.1 _ c.in_ok-write_initial.was (quiet-told _ _ c.say_nothing.ensures)

pub returns-in_err-write_initial : goal.returns-in_err-write_initial
returns-in_err-write_initial c = initialize-refused _ _ _ _ _ _ c.write_initial.ensures.0 c.write_initial.ensures.1 _ c.in_err-write_initial.was (ap told (handed-on _ _ c.from_residual.ensures.1))
