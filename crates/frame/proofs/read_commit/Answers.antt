-- `frame::read_commit` meets its contract: each branch by its law of Reading.
use Rattle.frame.proofs.Reading.{head-status, commit-offer, commit-request, commit-refusal, commit-other}
use Rattle.frame.proofs.read_commit.Goals as goal

pub returns-then-status-eq-SUCCESS : goal.returns-then-status-eq-SUCCESS
returns-then-status-eq-SUCCESS c = commit-offer _ _ _ (head-status _ _ c.requires) _ c.if-status-eq-SUCCESS.true c.read_offer.ensures

pub returns-then-status-eq-TOKEN_REQUIRED : goal.returns-then-status-eq-TOKEN_REQUIRED
returns-then-status-eq-TOKEN_REQUIRED c = commit-request _ _ _ (head-status _ _ c.requires) _ c.if-status-eq-TOKEN_REQUIRED.true c.read_token_request.ensures

pub returns-then-status-eq-GROUP_REFUSED : goal.returns-then-status-eq-GROUP_REFUSED
returns-then-status-eq-GROUP_REFUSED c = commit-refusal _ _ _ (head-status _ _ c.requires) _ c.if-status-eq-GROUP_REFUSED.true c.read_group_refusal.ensures

pub returns : goal.returns
returns c = commit-other _ _ _ (head-status _ _ c.requires) c.if-status-eq-SUCCESS.false c.if-status-eq-TOKEN_REQUIRED.false c.if-status-eq-GROUP_REFUSED.false
