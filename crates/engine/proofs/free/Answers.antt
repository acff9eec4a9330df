use Rattle.answers.specs.Answers.{telling}
use Rattle.std.proofs.Common.{ap, refl}
use Rattle.engine.proofs.Headers.{held-reached}
use Rattle.engine.proofs.Windows.{slot-changed, slot-done}
use Rattle.engine.proofs.Starts.{kill-seated}
use borrow.Author.Rules.{rules}
use Rattle.engine.proofs.free.Goals as goal

pub standing_of-was-requires : goal.standing_of-was-requires
standing_of-was-requires c = held-reached _ c.args.h _ c.requires _ c.width_of-w.ensures

pub finish_at-requires : goal.finish_at-requires
finish_at-requires c = slot-changed _ c.args.h _ c.requires _ _ _ _ (search rules) c.kill_at-said.ensures
    c.standing_of-was.ensures

pub returns : goal.returns
returns c = slot-done _ _ _ _ _ _ _ _ kill-seated c.kill_at-said.ensures (ap telling c.finish_at.ensures.0, c.finish_at.ensures.1)
