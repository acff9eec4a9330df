use Rattle.table.proofs.has.Goals as goal

pub returns : goal.returns
returns c = cc c.number_at-number.ensures.0
