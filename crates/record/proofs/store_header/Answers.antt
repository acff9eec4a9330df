use mathlib.Core.Path.{◌≡◌}
use lib.ListN.{length}
use Rattle.record.proofs.Laws.{store-header-law}
use borrow.Author.Rules.{rules}
use Rattle.record.proofs.store_header.Goals as goal

pub returns : goal.returns
returns c = let fit : length c.args.h.own ≡ 6 = search rules in store-header-law c.args.s.now _ _ c.args.h c.requires fit c.store_front.ensures c.store_back.ensures
