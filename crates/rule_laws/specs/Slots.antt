-- Which act refuses for want of a slot.
use Rattle.std.specs.Prelude.{Bool, true, false}
use Rattle.rules.specs.declared.Act.{Act}
use Rattle.rules.specs.declared.Act.TheVariants.{Drop, RefuseGroup, AskToken, NoSlot, AnswerCommit, ConfirmCommit, ReplyToken, SwitchGroup, RepeatCommit, RepeatRefusal, ResendBoth, ConfirmAgain, GiveUp, Accept, HearAgain, HearLast, EndLink, Begin}

abbrev pub is_no_slot : Act → Bool
is_no_slot Drop = false
is_no_slot RefuseGroup = false
is_no_slot AskToken = false
is_no_slot NoSlot = true
is_no_slot AnswerCommit = false
is_no_slot ConfirmCommit = false
is_no_slot ReplyToken = false
is_no_slot SwitchGroup = false
is_no_slot RepeatCommit = false
is_no_slot RepeatRefusal = false
is_no_slot ResendBoth = false
is_no_slot ConfirmAgain = false
is_no_slot GiveUp = false
is_no_slot Accept = false
is_no_slot HearAgain = false
is_no_slot HearLast = false
is_no_slot EndLink = false
is_no_slot Begin = false
