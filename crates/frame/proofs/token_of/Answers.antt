-- `frame::token_of` meets its contract: its answers by laws of Laws.
use Rattle.frame.proofs.Laws.{token-past, token-rest, token-whole}
use Rattle.frame.proofs.token_of.Goals as goal

pub returns-then-all-lt-HEAD : goal.returns-then-all-lt-HEAD
returns-then-all-lt-HEAD c = token-past _ _ c.if-all-lt-HEAD.true

pub returns-then-all-n : goal.returns-then-all-n
returns-then-all-n c = token-rest _ _ c.if-all-lt-HEAD.false c.if-all-n.true

pub returns : goal.returns
returns c = token-whole _ _ _ c.part_at.ensures
