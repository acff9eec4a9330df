-- `sae::framed` meets its contract: each return by its law of Laws.
use Rattle.sae.proofs.Laws.{framed-laid}
use mathlib.Core.Path.{◌≡◌}
use lib.ListN.{length}
use borrow.Author.Rules.{rules}
use Rattle.sae.proofs.framed.Goals as goal

pub returns : goal.returns
returns c = let firsts : length c.args.first ≡ 8 = search rules in let seconds : length c.args.second ≡ 8 = search rules in framed-laid _ _ _ _ _ _ firsts seconds c.put8.ensures c.copy_in.ensures c.copy_in-2.ensures
