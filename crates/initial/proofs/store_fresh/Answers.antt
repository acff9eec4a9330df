use Rattle.initial.proofs.Initial.{fill-law}
use mathlib.Core.Path.{◌≡◌}
use lib.ListN.{length}
use Rattle.record.proofs.Laws.{length-six}
use borrow.Author.Rules.{rules}
use Rattle.initial.proofs.store_fresh.Goals as goal

pub returns : goal.returns
returns c = let fit : length c.args.h.own ≡ 6 = search rules in fill-law c.args.t.now _ _ c.args.h c.requires (length-six c.args.h fit) c.clear.ensures c.store_header.ensures
