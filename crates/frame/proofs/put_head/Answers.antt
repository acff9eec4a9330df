-- `frame::put_head` meets its contract: its answers by laws of Laws.
use Rattle.frame.proofs.Laws.{head-law}
use Rattle.frame.proofs.put_head.Goals as goal

pub returns : goal.returns
returns c = head-law _ _ _ _ _ _ _ _ c.requires c.put16.ensures c.put16-2.ensures c.put16-3.ensures c.put16-4.ensures
