-- `frame::read_listed` meets its contract: each branch by its law of Reading.
use Rattle.frame.proofs.Reading.{listed-short, listed-long, listed-read}
use Rattle.frame.proofs.read_listed.Goals as goal

pub returns-then-n-least : goal.returns-then-n-least
returns-then-n-least c = listed-short _ _ _ _ c.requires c.commit_length.ensures.0 c.if-n-least.true

pub returns-then-token-gt-TOKEN : goal.returns-then-token-gt-TOKEN
returns-then-token-gt-TOKEN c = listed-long _ _ _ _ c.requires c.commit_length.ensures.0 c.if-n-least.false c.if-token-gt-TOKEN.true

pub returns : goal.returns
returns c = listed-read _ _ _ _ c.requires c.commit_length.ensures.0 c.if-n-least.false c.if-token-gt-TOKEN.false
