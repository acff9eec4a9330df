-- `frame::write_confirm` meets its contract: each branch by its law of Drawing.
use Rattle.frame.proofs.Drawing.{confirm-unfit, confirm-drawn}
use Rattle.frame.proofs.write_confirm.Goals as goal

pub returns-then-value-ne-VALUE : goal.returns-then-value-ne-VALUE
returns-then-value-ne-VALUE c = confirm-unfit _ _ _ c.if-value-ne-VALUE.true

pub returns : goal.returns
returns c = confirm-drawn _ _ _ _ _ c.if-value-ne-VALUE.false c.write_body.ensures
