-- `frame::is_whole` meets its contract: from the offset reached the elements are whole just if they are from the first one; each step by its law of Elements.
use mathlib.Core.Path.{refl, sym, ◌∙◌}
use native.Mathlib.Omega.{arith}
use borrow.Author.Rules.{rules}
use Rattle.frame.proofs.Elements.{whole-end, whole-lone, whole-short, whole-next}
use Rattle.frame.proofs.is_whole.Goals as goal

pub loop-reached-init : goal.loop-reached-init
loop-reached-init c = (search rules, refl)

pub returns-then-left-lt-ELEMENT : goal.returns-then-left-lt-ELEMENT
returns-then-left-lt-ELEMENT c = let l = c.loop-reached in
    sym (l.invariant.1 ∙ whole-lone _ l.reached c.loop-reached-test.true c.if-left-lt-ELEMENT.true)

pub returns-then-left-size : goal.returns-then-left-size
returns-then-left-size c = let l = c.loop-reached in
    sym (l.invariant.1 ∙ whole-short _ l.reached _ c.get8-size.ensures (omega arith) c.if-left-size.true)

pub loop-reached-preserved : goal.loop-reached-preserved
loop-reached-preserved c = let l = c.loop-reached in (
  search rules,
  l.invariant.1 ∙ whole-next _ l.reached _ c.get8-size.ensures (omega arith) c.if-left-size.false,
)

pub returns : goal.returns
returns c = let l = c.loop-reached in
    sym (l.invariant.1 ∙ whole-end _ l.reached c.loop-reached-test.false)
