use native.Mathlib.Omega.{arith}
use Rattle.table.proofs.Octets.{window-length}
use Rattle.engine.proofs.Headers.{held-reached}
use Rattle.engine.proofs.Windows.{at-does}
use Rattle.engine.proofs.Starts.{killed}
use borrow.Author.Rules.{rules}
use Rattle.engine.proofs.kill_at.Goals as goal

pub record_at-a-requires : goal.record_at-a-requires
record_at-a-requires c = let R = held-reached _ c.args.h _ c.requires _ c.width_of-w.ensures in
    (R.most, omega (arith, R.long))

pub overflow_add-e : goal.overflow_add-e
overflow_add-e c = omega (arith, (held-reached _ c.args.h _ c.requires _ c.width_of-w.ensures).long)

pub slice_bounds-clear-end : goal.slice_bounds-clear-end
slice_bounds-clear-end c = omega (arith, (held-reached _ c.args.h _ c.requires _ c.width_of-w.ensures).long)

pub returns : goal.returns
returns c = let R = held-reached c.args.t.now c.args.h c.args.k c.requires _
    c.width_of-w.ensures in
    at-does c.args.t.now c.args.h c.args.k c.requires _ c.width_of-w.ensures
    _ _ c.record_at-a.ensures c.record_size.ensures _ _ _
    (search rules)
    (killed _ _ _ _ R.most (window-length _ _ _ _ R c.record_at-a.ensures _ c.record_size.ensures)
    c.clear.ensures c.say_frames.ensures)
