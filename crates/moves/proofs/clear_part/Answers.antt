use Rattle.moves.proofs.Records.{clear-law}
use Rattle.moves.proofs.clear_part.Goals as goal

pub returns : goal.returns
returns c = clear-law c.args.t.now _ c.args.at c.args.n c.requires c.clear.ensures
