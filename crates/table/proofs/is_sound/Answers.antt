use Rattle.table.proofs.Laws.{not-long}
use Rattle.table.proofs.is_sound.Goals as goal

pub returns-then-t-lt-HEADER : goal.returns-then-t-lt-HEADER
returns-then-t-lt-HEADER c = not-long _ c.if-t-lt-HEADER.true

pub returns : goal.returns
returns c = c.is_whole.ensures
