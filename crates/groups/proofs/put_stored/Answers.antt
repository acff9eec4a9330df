use mathlib.Core.Path.{refl, ◌∙◌}
use native.Mathlib.Omega.{arith}
use lib.Seq.{length-take-le}
use Rattle.octets.proofs.Laws.{prefix-count}
use Rattle.groups.proofs.Laws.{way-law, cut_fits}
use borrow.Author.Rules.{rules}
use Rattle.groups.specs.Groups.{stored}
use Rattle.groups.proofs.put_stored.Goals as goal

pub slice_bounds-copy_in-end : goal.slice_bounds-copy_in-end
slice_bounds-copy_in-end c = prefix-count _ _ (search rules)

pub copy_in-requires : goal.copy_in-requires
copy_in-requires c = let l = length-take-le c.args.w c.filled-a.result (search rules) in omega (arith, l, c.requires.0)

pub returns-then-w-ne-COMMIT_20 : goal.returns-then-w-ne-COMMIT_20
unfolding stored
returns-then-w-ne-COMMIT_20 c = c.copy_in.ensures ∙ rw c.filled-a.ensures refl

pub slice_bounds-filled-end : goal.slice_bounds-filled-end
slice_bounds-filled-end c = prefix-count 96 c.args.commit.now (search rules)

pub filled-a-requires-then-n-eq-COMMIT_19 : goal.filled-a-requires-then-n-eq-COMMIT_19
filled-a-requires-then-n-eq-COMMIT_19 c = (omega arith, cut_fits 96 c.args.commit.now (omega arith))

pub returns-then-n-eq-COMMIT_19 : goal.returns-then-n-eq-COMMIT_19
unfolding stored
returns-then-n-eq-COMMIT_19 c = way-law _ _ c.args.commit.now _ _ _ 96 144 c.if-w-ne-COMMIT_20.false c.if-n-eq-COMMIT_19.true c.filled-a-then-n-eq-COMMIT_19.ensures c.put_front.ensures

pub slice_bounds-filled-end-then-n-eq-COMMIT_20 : goal.slice_bounds-filled-end-then-n-eq-COMMIT_20
slice_bounds-filled-end-then-n-eq-COMMIT_20 c = prefix-count 144 c.args.commit.now (search rules)

pub filled-a-requires-then-n-eq-COMMIT_20 : goal.filled-a-requires-then-n-eq-COMMIT_20
filled-a-requires-then-n-eq-COMMIT_20 c = (omega arith, cut_fits 144 c.args.commit.now (omega arith))

pub returns-then-n-eq-COMMIT_20 : goal.returns-then-n-eq-COMMIT_20
unfolding stored
returns-then-n-eq-COMMIT_20 c = way-law _ _ c.args.commit.now _ _ _ 144 144 c.if-w-ne-COMMIT_20.false c.if-n-eq-COMMIT_20.true c.filled-a-then-n-eq-COMMIT_20.ensures c.put_front-then-n-eq-COMMIT_20.ensures

pub returns : goal.returns
unfolding stored
returns c = c.put_front-2.ensures ∙ rw (c.filled-a-2.ensures, c.if-w-ne-COMMIT_20.false) refl
