use borrow.Author.Rules.{rules}
use native.Mathlib.Omega.{arith}
use mathlib.Core.Path.{sym, ◌∙◌}
use Rattle.groups.proofs.Laws.{room-below, room_in}
use Rattle.groups.proofs.Fresh.{tails-bad, tails-good, tails_end}
use Rattle.groups.specs.Groups.{fresh_of}
use Rattle.std.proofs.Common.{ap}
use Rattle.std.specs.Prelude.{not}
use Rattle.groups.proofs.tails_ok.Goals as goal

pub overflow_mul-w : goal.overflow_mul-w
overflow_mul-w c = search (rules, room-below c.args.w _ _ c.loop-i-test.true)

pub zero_past-zero-requires : goal.zero_past-zero-requires
zero_past-zero-requires c = search (rules, room-below c.args.w _ _ c.loop-i-test.true)

pub returns-then-not-zero : goal.returns-then-not-zero
returns-then-not-zero c = let l = c.loop-i in
    let a = c.args in
    let h = c.loop-i-test.true in
    sym (l.invariant.3 ∙ sym (tails-bad a.w a.groups.now a.fresh.now l.i l.invariant.0 h (room_in a.w l.i _ _ h l.invariant.1) _ _ c.commit_length-n.ensures.0 c.zero_past-zero.ensures (ap not c.if-not-zero.true)))

pub loop-i-preserved : goal.loop-i-preserved
loop-i-preserved c = let l = c.loop-i in
    let a = c.args in
    let h = c.loop-i-test.true in
    (l.invariant.0, l.invariant.1, omega arith, l.invariant.3 ∙ tails-good a.w a.groups.now a.fresh.now l.i l.invariant.0 h (room_in a.w l.i _ _ h l.invariant.1) _ _ c.commit_length-n.ensures.0 c.zero_past-zero.ensures (ap not c.if-not-zero.false))

pub returns : goal.returns
returns c = let l = c.loop-i in let a = c.args in tails_end a.groups.now (fresh_of a.w a.fresh.now) l.i c.loop-i-test.false ∙ sym l.invariant.3
