use mathlib.Core.Path.{◌≡◌, ◌∙◌}
use mathlib.Core.List.{[], ◌∷◌}
use Rattle.record.specs.Layout.{front_fields}
use Rattle.record.proofs.Codec.{lay}
use Rattle.record.proofs.Laws.{store-front-law}
use Rattle.record.proofs.store_front.Goals as goal

pub returns : goal.returns
unfolding lay front_fields
returns c = let chain : c.put16-8.new.s ≡ lay 0 (2 ∷ 2 ∷ 2 ∷ 2 ∷ 2 ∷ 2 ∷ 2 ∷ 2 ∷ []) (front_fields c.args.h) c.args.s.now =
    cc (
      c.put16-8.ensures,
      c.put16-7.ensures,
      c.put16-6.ensures,
      c.put16-5.ensures,
      c.put16-4.ensures,
      c.put16-3.ensures,
      c.put16-2.ensures,
      c.put16.ensures,
    ) in
    chain ∙ store-front-law c.args.s.now c.args.h c.requires
