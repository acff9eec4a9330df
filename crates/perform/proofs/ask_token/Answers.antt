use Rattle.perform.proofs.ask_token.Goals as goal

pub returns : goal.returns
returns c = cc
