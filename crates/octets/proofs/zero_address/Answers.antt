use Rattle.octets.specs.Octets.{zero_address}
use Rattle.octets.proofs.zero_address.Goals as goal

pub returns : goal.returns
unfolding zero_address
returns c = cc
