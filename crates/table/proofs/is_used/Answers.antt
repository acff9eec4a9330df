use Rattle.table.proofs.is_used.Goals as goal

pub returns : goal.returns
returns c = cc
