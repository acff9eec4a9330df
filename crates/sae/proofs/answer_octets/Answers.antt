-- `sae::answer_octets` meets its contract by its law of Laws.
use mathlib.Core.Path.{◌≡◌}
use native.Mathlib.Omega.{arith}
use lib.ListN.{length}
use borrow.Author.Rules.{rules}
use Rattle.sae.proofs.Laws.{answer-laid}
use Rattle.sae.proofs.answer_octets.Goals as goal

pub copy_in-requires : goal.copy_in-requires
copy_in-requires c = let six : length c.args.a.address ≡ 6 = search rules in omega (arith, six)

pub returns : goal.returns
returns c =
    let six : length c.args.a.address ≡ 6 = search rules in
    answer-laid c.args.a _ _ _ _ _ _ c.from-event.ensures c.frames_octets-frames.ensures six c.put8.ensures c.put16.ensures c.copy_in.ensures c.copy_in-2.ensures
