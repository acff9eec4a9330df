use Rattle.octets.specs.Octets.{same_address}
use Rattle.octets.proofs.same_address.Goals as goal

pub returns : goal.returns
unfolding same_address
returns c = cc
