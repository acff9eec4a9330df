use Rattle.perform.proofs.refuse_group.Goals as goal

pub returns : goal.returns
returns c = cc
