use Rattle.table.proofs.is_open.Goals as goal

pub returns : goal.returns
returns c = cc
