use Rattle.std.proofs.Common.{rules}
use Rattle.answers.proofs.Laws.{seating-or}
use Rattle.answers.proofs.seat_of.Goals as goal

pub returns : goal.returns
returns c = seating-or _ _ _ _ (λ p. search rules) c.or_else.ensures
