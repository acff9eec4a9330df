-- `frame::elements_of` meets its contract: its answers by laws of Laws.
use Rattle.frame.proofs.Laws.{elements-past, elements-rest}
use Rattle.frame.proofs.elements_of.Goals as goal

pub returns-then-all-lt-CONFIRM : goal.returns-then-all-lt-CONFIRM
returns-then-all-lt-CONFIRM c = elements-past _ c.if-all-lt-CONFIRM.true

pub returns : goal.returns
returns c = elements-rest _ _ c.if-all-lt-CONFIRM.false c.part_at.ensures
