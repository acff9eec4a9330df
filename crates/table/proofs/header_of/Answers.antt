use Rattle.table.specs.Table.{decode_table}
use Rattle.table.proofs.header_of.Goals as goal

pub returns : goal.returns
unfolding decode_table
returns c = c.load_header.ensures
