use Rattle.table.proofs.Laws.{changed-reached, share-used, share-open, share-good, after-used, after_open, after-good, after-law}
use Rattle.table.proofs.counts_after.Goals as goal

pub is_used-requires : goal.is_used-requires
is_used-requires c = changed-reached _ _ c.args.h c.args.was _ c.requires c.width_of-w.ensures.0 c.width_of-w.ensures.1

pub moved-used-requires : goal.moved-used-requires
moved-used-requires c = share-used _ _ c.args.h c.args.was c.requires

pub is_open-requires : goal.is_open-requires
is_open-requires c = changed-reached _ _ c.args.h c.args.was _ c.requires c.width_of-w.ensures.0 c.width_of-w.ensures.1

pub moved-opened-requires : goal.moved-opened-requires
moved-opened-requires c = share-open _ _ c.args.h c.args.was c.requires

pub is_good-requires : goal.is_good-requires
is_good-requires c = changed-reached _ _ c.args.h c.args.was _ c.requires c.width_of-w.ensures.0 c.width_of-w.ensures.1

pub moved-good-requires : goal.moved-good-requires
moved-good-requires c = share-good _ _ c.args.h c.args.was c.requires

pub returns : goal.returns
returns c = after-law _ _ _ _
    (after-used _ _ c.args.h c.args.was c.requires _ _ c.is_used.ensures c.moved-used.ensures)
    (after_open _ _ c.args.h c.args.was c.requires _ _ c.is_open.ensures c.moved-opened.ensures)
    (after-good _ _ c.args.h c.args.was c.requires _ _ c.is_good.ensures c.moved-good.ensures)
