use Rattle.table.proofs.Laws.{reach}
use Rattle.octets.proofs.Scan.{first-none, first_more, first-hit, first-through}
use mathlib.Core.Path.{sym, ◌∙◌}
use Rattle.engine.proofs.due_below.Goals as goal

pub loop-k-init : goal.loop-k-init
loop-k-init c = first-none _

pub is_expired_at-requires : goal.is_expired_at-requires
is_expired_at-requires c = reach c.args.t.now c.args.w c.args.n _ c.requires c.loop-k-test.true

pub returns-then-is_expired_at : goal.returns-then-is_expired_at
returns-then-is_expired_at c = first-hit _ _ _ c.loop-k-test.true c.loop-k.invariant (sym c.is_expired_at.ensures ∙ c.if-is_expired_at.true)

pub loop-k-preserved : goal.loop-k-preserved
loop-k-preserved c = first_more _ _ c.loop-k.invariant (sym c.is_expired_at.ensures ∙ c.if-is_expired_at.false)

pub returns : goal.returns
returns c = first-through _ _ _ c.loop-k.auto.k-end c.loop-k-test.false c.loop-k.invariant
