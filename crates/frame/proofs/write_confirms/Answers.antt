-- `frame::write_confirms` meets its contract: each branch by its law of Drawing.
use Rattle.frame.proofs.Drawing.{confirms-status, confirms-group, confirms-token, confirms-drawn}
use Rattle.frame.proofs.write_confirms.Goals as goal

pub returns-then-status-ne-SUCCESS : goal.returns-then-status-ne-SUCCESS
returns-then-status-ne-SUCCESS c = confirms-status _ _ _ _ _ _ c.if-status-ne-SUCCESS.true

pub returns-then-group-ne0 : goal.returns-then-group-ne0
returns-then-group-ne0 c = confirms-group _ _ _ _ _ _ c.if-status-ne-SUCCESS.false c.if-group-ne0.true

pub returns-then-token-ne0 : goal.returns-then-token-ne0
returns-then-token-ne0 c = confirms-token _ _ _ _ _ _ c.if-status-ne-SUCCESS.false c.if-group-ne0.false c.if-token-ne0.true

pub returns : goal.returns
returns c = confirms-drawn _ _ _ _ _ _ _ _ c.if-status-ne-SUCCESS.false c.if-group-ne0.false c.if-token-ne0.false c.write_confirm.ensures
