use mathlib.Core.Path.{sym}
use Rattle.octets.proofs.Scan.{all_none}
use Rattle.octets.proofs.Tests.{same-lengths, pair-step, pair-end}
use Rattle.octets.proofs.is_same.Goals as goal

pub returns-then-a-b : goal.returns-then-a-b
returns-then-a-b c = sym (same-lengths _ _ c.if-a-b.true)

pub loop-x-init : goal.loop-x-init
loop-x-init c = sym (all_none _)

pub loop-x-preserved : goal.loop-x-preserved
loop-x-preserved c = let l = c.loop-x in
    pair-step c.args.a.now c.args.b.now l.yielded c.into_iter-x-iterator.result l.x-iterator c.next.new.self _ (cc) (cc) l.yielded_by l.any l.invariant _ c.in-Some.is c.next.ensures.steps

pub returns : goal.returns
returns c = let l = c.loop-x in
    pair-end c.args.a.now c.args.b.now l.yielded c.into_iter-x-iterator.result l.x-iterator c.next.new.self _ (cc) (cc) l.yielded_by l.any l.invariant c.if-a-b.false c.in-None.is c.next.ensures.steps
