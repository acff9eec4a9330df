use mathlib.Core.Path.{◌≡◌, ◌∙◌}
use mathlib.Core.List.{[], ◌∷◌}
use lib.ListN.{length}
use Rattle.record.specs.Layout.{back_fields}
use Rattle.record.proofs.Codec.{lay}
use Rattle.record.proofs.Laws.{store-back-law}
use borrow.Author.Rules.{rules}
use Rattle.record.proofs.store_back.Goals as goal

pub returns : goal.returns
unfolding lay back_fields
returns c = let fit : length c.args.h.own ≡ 6 = search rules in let chain : c.put16-4.new.s ≡ lay 0 (6 ∷ 1 ∷ 1 ∷ 2 ∷ 2 ∷ 2 ∷ 2 ∷ []) (back_fields c.args.h) c.args.s.now =
    cc (
      c.put16-4.ensures,
      c.put16-3.ensures,
      c.put16-2.ensures,
      c.put16.ensures,
      c.put8-2.ensures,
      c.put8.ensures,
      c.put_array.ensures,
    ) in
    chain ∙ store-back-law c.args.s.now c.args.h c.requires fit
