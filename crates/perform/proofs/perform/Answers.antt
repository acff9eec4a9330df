use native.Mathlib.Omega.{arith}
use Rattle.perform.proofs.Performs.{did-drop, did-refuse-group, did-ask-token, did-no-slot, did-answer-commit, did-confirm-commit, did-reply-token, did-switch-group, did-repeat-commit, did-repeat-refusal, did-resend-both, did-confirm-again, did-give-up, did-accept, did-hear-again, did-hear-last, did-end-link, did-begin}
use Rattle.perform.proofs.perform.Goals as goal

pub resend_both-requires : goal.resend_both-requires
resend_both-requires c = (c.requires.0, c.requires.1.resend c.in-ResendBoth.is)

pub hear_again-requires : goal.hear_again-requires
hear_again-requires c = let r = c.requires.0 in (r.size, (r.most, omega (arith, r.paced.few, c.requires.1.hear c.in-HearAgain.is)))

pub returns-in-Drop : goal.returns-in-Drop
returns-in-Drop c = did-drop _ _ _ _ _ _ _ c.in-Drop.is c.say_frames.ensures

pub returns-in-RefuseGroup : goal.returns-in-RefuseGroup
returns-in-RefuseGroup c = did-refuse-group _ _ _ _ _ _ _ c.in-RefuseGroup.is c.refuse_group.ensures

pub returns-in-AskToken : goal.returns-in-AskToken
returns-in-AskToken c = did-ask-token _ _ _ _ _ _ _ c.in-AskToken.is c.ask_token.ensures

pub returns-in-NoSlot : goal.returns-in-NoSlot
returns-in-NoSlot c = did-no-slot _ _ _ _ _ _ _ c.in-NoSlot.is c.say_refused.ensures

pub returns-in-AnswerCommit : goal.returns-in-AnswerCommit
returns-in-AnswerCommit c = did-answer-commit _ _ _ _ _ _ _ _ c.in-AnswerCommit.is c.answer_commit.ensures

pub returns-in-ConfirmCommit : goal.returns-in-ConfirmCommit
returns-in-ConfirmCommit c = did-confirm-commit _ _ _ _ _ _ _ _ c.in-ConfirmCommit.is c.confirm_commit.ensures

pub returns-in-ReplyToken : goal.returns-in-ReplyToken
returns-in-ReplyToken c = did-reply-token _ _ _ _ _ _ _ _ c.in-ReplyToken.is c.reply_token.ensures

pub returns-in-SwitchGroup : goal.returns-in-SwitchGroup
returns-in-SwitchGroup c = did-switch-group _ _ _ _ _ _ _ _ c.in-SwitchGroup.is c.switch_group.ensures

pub returns-in-RepeatCommit : goal.returns-in-RepeatCommit
returns-in-RepeatCommit c = did-repeat-commit _ _ _ _ _ _ _ _ c.in-RepeatCommit.is c.repeat_commit.ensures

pub returns-in-RepeatRefusal : goal.returns-in-RepeatRefusal
returns-in-RepeatRefusal c = did-repeat-refusal _ _ _ _ _ _ _ _ c.in-RepeatRefusal.is c.repeat_refusal.ensures

pub returns-in-ResendBoth : goal.returns-in-ResendBoth
returns-in-ResendBoth c = did-resend-both _ _ _ _ _ _ _ _ c.in-ResendBoth.is c.resend_both.ensures

pub returns-in-ConfirmAgain : goal.returns-in-ConfirmAgain
returns-in-ConfirmAgain c = did-confirm-again _ _ _ _ _ _ _ _ c.in-ConfirmAgain.is c.confirm_again.ensures

pub returns-in-GiveUp : goal.returns-in-GiveUp
returns-in-GiveUp c = did-give-up _ _ _ _ _ _ _ _ c.in-GiveUp.is c.abandon.ensures

pub returns-in-Accept : goal.returns-in-Accept
returns-in-Accept c = did-accept _ _ _ _ _ _ _ _ c.in-Accept.is c.accept.ensures

pub returns-in-HearAgain : goal.returns-in-HearAgain
returns-in-HearAgain c = did-hear-again _ _ _ _ _ _ _ _ c.in-HearAgain.is c.hear_again.ensures

pub returns-in-HearLast : goal.returns-in-HearLast
returns-in-HearLast c = did-hear-last _ _ _ _ _ _ _ _ c.in-HearLast.is c.hear_last.ensures

pub returns-in-EndLink : goal.returns-in-EndLink
returns-in-EndLink c = did-end-link _ _ _ _ _ _ _ _ c.in-EndLink.is c.end_link.ensures

pub returns-in-Begin : goal.returns-in-Begin
returns-in-Begin c = did-begin _ _ _ _ _ _ _ _ c.in-Begin.is c.begin.ensures
