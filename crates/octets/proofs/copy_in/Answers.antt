use Rattle.octets.proofs.Laws.{copy-in-law}
use Rattle.octets.proofs.copy_in.Goals as goal

pub returns : goal.returns
returns c = copy-in-law c.args.s.now c.args.src.now _ c.args.at c.requires c.copy_from_slice.ensures.after
