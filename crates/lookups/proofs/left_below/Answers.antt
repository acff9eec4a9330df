use Rattle.table.proofs.Laws.{reach}
use Rattle.std.proofs.Common.{rules, ◌∙◌}
use Rattle.lookups.proofs.Laws.{least-none, least_more, least-through, min-lesser}
use Rattle.lookups.proofs.left_below.Goals as goal

pub loop-k-init : goal.loop-k-init
loop-k-init c = (search rules, least-none _)

pub left_at-requires : goal.left_at-requires
left_at-requires c = let a = c in reach a.args.t.now a.args.w a.args.n c.loop-k.k a.requires c.loop-k-test.true

pub loop-k-preserved : goal.loop-k-preserved
loop-k-preserved c = (search rules, least_more _ _ _ _ _ c.loop-k.invariant.1 c.left_at.ensures (c.min-least.ensures ∙ min-lesser c.loop-k.least c.left_at.result))

pub returns : goal.returns
returns c = least-through _ _ _ _ c.loop-k.invariant.0 c.loop-k-test.false c.loop-k.invariant.1
