use borrow.Author.Rules.{rules}
use lib.ListN.{length, take}
use lib.Seq.{length-take-le}
use native.Mathlib.Omega.{arith}
use Rattle.table.proofs.Keys.{any_none, keys-before, new-zero, new-law}
use mathlib.Core.Path.{◌≡◌, refl}
use Rattle.table.proofs.is_new.Goals as goal

pub returns-then-x-eq0 : goal.returns-then-x-eq0
returns-then-x-eq0 c = new-zero _ _ _ refl (search rules)

pub loop-key-init : goal.loop-key-init
loop-key-init c = any_none _

pub loop-key-preserved : goal.loop-key-preserved
loop-key-preserved c = let l = c.loop-key in keys-before _ _ l.key-index _ l.any c.loop-key-test.true l.invariant

pub returns : goal.returns
returns c = let l = c.loop-key in
    let a = c.args in
    let e : length (take a.k a.keys.now) ≡ a.k = length-take-le a.k a.keys.now (omega arith) in
    new-law _ _ l.key-index _ l.any refl (search rules) (omega arith) (omega (arith, c.loop-key-test.false)) l.invariant
