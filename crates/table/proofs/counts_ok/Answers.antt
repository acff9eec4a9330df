use Rattle.table.specs.Table.{counts_ok, used_count, open_count, good_count}
use Rattle.table.proofs.counts_ok.Goals as goal

pub returns : goal.returns
unfolding counts_ok used_count open_count good_count
returns c = cc
