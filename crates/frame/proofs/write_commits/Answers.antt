-- `frame::write_commits` meets its contract: each branch by its law of Drawing.
use Rattle.frame.proofs.Drawing.{commits-zero, commits-rest, commits-request, commits-other, commits-token, commits-tail, commits-refusal}
use Rattle.frame.proofs.write_commits.Goals as goal

pub returns-then-status-eq-SUCCESS : goal.returns-then-status-eq-SUCCESS
returns-then-status-eq-SUCCESS c = commits-zero _ _ _ _ _ _ _ _ c.if-status-eq-SUCCESS.true c.write_commit.ensures

pub returns-then-rest-ne0 : goal.returns-then-rest-ne0
returns-then-rest-ne0 c = commits-rest _ _ _ _ _ _ c.if-status-eq-TOKEN_REQUIRED.true c.if-rest-ne0.true

pub returns-then-status-eq-TOKEN_REQUIRED : goal.returns-then-status-eq-TOKEN_REQUIRED
returns-then-status-eq-TOKEN_REQUIRED c = commits-request _ _ _ _ _ _ _ _ c.if-status-eq-TOKEN_REQUIRED.true c.if-rest-ne0.false c.write_token_request.ensures

pub returns-then-status-ne-GROUP_REFUSED : goal.returns-then-status-ne-GROUP_REFUSED
returns-then-status-ne-GROUP_REFUSED c = commits-other _ _ _ _ _ _ c.if-status-eq-SUCCESS.false c.if-status-eq-TOKEN_REQUIRED.false c.if-status-ne-GROUP_REFUSED.true

pub returns-then-token-ne0 : goal.returns-then-token-ne0
returns-then-token-ne0 c = commits-token _ _ _ _ _ _ c.if-status-ne-GROUP_REFUSED.false c.if-token-ne0.true

pub returns-then-rest-ne0-2 : goal.returns-then-rest-ne0-2
returns-then-rest-ne0-2 c = commits-tail _ _ _ _ _ _ c.if-status-ne-GROUP_REFUSED.false c.if-token-ne0.false c.if-rest-ne0-2.true

pub returns : goal.returns
returns c = commits-refusal _ _ _ _ _ _ c.if-status-ne-GROUP_REFUSED.false _ _ c.if-token-ne0.false c.if-rest-ne0-2.false c.write_group_refusal.ensures
