use Rattle.groups.specs.Stocked.{commits_in}
use Rattle.message.specs.Received.{message_in}
use Rattle.machine.proofs.Rules.{asked-able, framed}
use Rattle.machine.proofs.on_frame.Goals as goal

pub perform-requires : goal.perform-requires
perform-requires c = let h = c.args.heard.now in (c.requires, asked-able h.stock.width h.stock.groups.now (commits_in h.stock) h.given _ (message_in h) _ c.frame-act.ensures)

pub returns : goal.returns
returns c = let h = c.args.heard.now in framed h.stock.width h.stock.groups.now (commits_in h.stock) h.given _ (message_in h) _ c.frame-act.ensures _ _ c.perform.ensures
