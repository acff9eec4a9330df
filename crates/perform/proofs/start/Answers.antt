use mathlib.Core.Path.{◌≡◌, refl}
use lib.ListN.{length}
use Rattle.perform.proofs.Runs.{start-law}
use borrow.Author.Rules.{rules}
use Rattle.perform.proofs.start.Goals as goal

pub returns : goal.returns
returns c = let address-long : length c.args.address ≡ 6 = search rules in start-law _ _ c.link_at-at.ensures _ c.requires.1.0 _ _ _ _ c.args.address _ _ _ _ c.start_run.ensures c.put8.ensures c.put_array.ensures c.commit_frame-commit.ensures refl (search rules) address-long
