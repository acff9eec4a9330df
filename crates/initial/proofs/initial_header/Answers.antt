use Rattle.initial.proofs.Initial.{made-header}
use Rattle.initial.proofs.initial_header.Goals as goal

pub returns : goal.returns
returns c = made-header _ _ _ _ c.wide-form.ensures
