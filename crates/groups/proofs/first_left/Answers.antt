use borrow.Author.Rules.{rules}
use native.Mathlib.Omega.{arith}
use lib.ListN.{length}
use Prim.Native.Nat.{◌<◌}
use mathlib.Core.Path.{sym, ◌∙◌}
use Rattle.groups.proofs.Laws.{left-next, left_here, left-none}
use Rattle.groups.proofs.first_left.Goals as goal

pub loop-i-preserved : goal.loop-i-preserved
loop-i-preserved c = let l = c.loop-i in let h : l.i < length c.args.groups.now = omega arith in (search rules, omega arith, l.invariant.2 ∙ left-next _ l.i _ h (sym c.is_marked.ensures ∙ c.if-not-is_marked.false))

pub returns-then-i-groups : goal.returns-then-i-groups
returns-then-i-groups c = let l = c.loop-i in sym (l.invariant.2 ∙ left-none _ l.i _ (omega arith))

pub returns-then-not-is_marked : goal.returns-then-not-is_marked
returns-then-not-is_marked c = let l = c.loop-i in let h : l.i < length c.args.groups.now = omega arith in sym (l.invariant.2 ∙ left_here _ l.i _ h (sym c.is_marked.ensures ∙ c.if-not-is_marked.true))
