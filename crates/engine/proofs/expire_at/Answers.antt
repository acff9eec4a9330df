use mathlib.Core.Path.{◌≡◌}
use mathlib.Core.List.{[]}
use Prim.Native.Nat.{ℕ}
use native.Mathlib.Omega.{arith}
use lib.ListN.{length}
use Rattle.record.specs.declared.Peer.{Peer}
use Rattle.record.specs.Layout.{groups_of}
use Rattle.rules.specs.Book.{on_clock}
use Rattle.rules.specs.Given.{terms, call}
use Rattle.engine.proofs.Headers.{few-counted}
use Rattle.engine.proofs.Windows.{listed-step}
use Rattle.table.specs.Table.{decode_table, slot}
use mathlib.Core.List.{List}
use Rattle.engine.proofs.Headers.{held-header, held-reached, count_fits, listed-count, window-whole}
use Rattle.engine.proofs.Windows.{at-step}
use borrow.Author.Rules.{rules}
use Rattle.engine.proofs.expire_at.Goals as goal

pub record_at-a-requires : goal.record_at-a-requires
record_at-a-requires c = let R = held-reached _ c.args.h _ c.requires.0 _ c.width_of-w.ensures in
    (R.most, omega (arith, R.long))

pub overflow_add-e : goal.overflow_add-e
overflow_add-e c = omega (arith, (held-reached _ c.args.h _ c.requires.0 _ c.width_of-w.ensures).long)

pub slice_bounds-on_clock-end : goal.slice_bounds-on_clock-end
slice_bounds-on_clock-end c = omega (arith, (held-reached _ c.args.h _ c.requires.0 _ c.width_of-w.ensures).long)

pub listed-requires : goal.listed-requires
listed-requires c = few-counted c.args.h (held-header _ _ _ c.requires.0)

pub on_clock-requires : goal.on_clock-requires
on_clock-requires c = window-whole _ c.args.h _ c.requires.0 _ c.width_of-w.ensures
    _ _ c.record_at-a.ensures c.record_size.ensures
    c.args.g.clock (λ i. search rules) c.requires.1

pub returns : goal.returns
returns c =
    listed-step _ _ _ _ (λ (l : List ℕ). on_clock (terms c.args.g l) (call c.args.g []) (slot (decode_table c.args.t.now) c.args.k)) _ _ c.listed.ensures
    (at-step c.args.t.now c.args.h c.args.k c.requires.0 _ c.width_of-w.ensures
    _ _ c.record_at-a.ensures c.record_size.ensures
    (λ (W : ℕ) (p : Peer). on_clock (terms c.args.g c.listed.result.now) (call c.args.g []) p) _ _ (search rules) c.on_clock.ensures)
