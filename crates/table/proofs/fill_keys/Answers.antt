use Rattle.table.proofs.Laws.{reach}
use borrow.Author.Rules.{rules}
use Rattle.table.proofs.Keys.{keys-more}
use native.Mathlib.Omega.{arith}
use Rattle.table.proofs.fill_keys.Goals as goal

pub loop-k-init : goal.loop-k-init
loop-k-init c = (search rules, (search rules, λ k h. absurd (omega arith)))

pub key_at-requires : goal.key_at-requires
key_at-requires c = reach c.args.t.now c.args.w c.args.n c.loop-k.k c.requires.0 c.loop-k-test.true

pub loop-k-preserved : goal.loop-k-preserved
loop-k-preserved c = let l = c.loop-k in (search rules, (search rules, keys-more _ l.keys l.k _ (search rules) l.invariant.1.1 c.key_at.ensures))

pub returns : goal.returns
returns c = λ k h. c.loop-k.invariant.1.1 k (omega (arith, c.loop-k-test.false))
