use lib.ListN.{length}
use borrow.Author.Rules.{rules}
use Rattle.groups.proofs.Laws.{room_in}
use Rattle.groups.proofs.stocked.Stock.fresh_at.Goals as goal

pub fresh_at-requires : goal.fresh_at-requires
fresh_at-requires c = let k = c.args.self.now in (search rules, room_in k.width c.args.i (length k.groups.now) _ c.requires (search rules))
