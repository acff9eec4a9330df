use Rattle.table.proofs.Keys.{key-yes, key-no}
use Rattle.table.proofs.key_at.Goals as goal

pub returns-then-is_used : goal.returns-then-is_used
returns-then-is_used c = key-yes _ _ _ c.is_used.ensures c.if-is_used.true c.number_at-number.ensures.0

pub returns : goal.returns
returns c = key-no _ _ c.is_used.ensures c.if-is_used.false
