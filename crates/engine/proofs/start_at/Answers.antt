use Prim.Native.Nat.{ℕ, ◌≤◌}
use native.Mathlib.Omega.{arith}
use Rattle.groups.specs.Groups.{width}
use Rattle.groups.specs.Stocked.{commits_in}
use Rattle.record.specs.declared.Peer.{Peer}
use Rattle.rules.specs.Book.{on_start}
use Rattle.rules.specs.Given.{terms, call}
use Rattle.engine.proofs.Headers.{held-reached, window-whole}
use Rattle.engine.proofs.Windows.{at-step}
use borrow.Author.Rules.{rules}
use Rattle.engine.proofs.start_at.Goals as goal

pub record_at-a-requires : goal.record_at-a-requires
record_at-a-requires c = let most : c.args.stock.now.width ≤ width = search rules in
    (most, omega (arith, (held-reached _ c.args.h _ c.requires.0 _ (c.requires.1.0.width, most)).long))

pub overflow_add-e : goal.overflow_add-e
overflow_add-e c = let most : c.args.stock.now.width ≤ width = search rules in
    omega (arith, (held-reached _ c.args.h _ c.requires.0 _ (c.requires.1.0.width, most)).long)

pub slice_bounds-on_start-end : goal.slice_bounds-on_start-end
slice_bounds-on_start-end c = let most : c.args.stock.now.width ≤ width = search rules in
    omega (arith, (held-reached _ c.args.h _ c.requires.0 _ (c.requires.1.0.width, most)).long)

pub on_start-requires : goal.on_start-requires
on_start-requires c = let most : c.args.stock.now.width ≤ width = search rules in
    window-whole _ c.args.h _ c.requires.0 _ (c.requires.1.0.width, most)
    _ _ c.record_at-a.ensures c.record_size.ensures
    c.args.g.clock (λ i. search rules) c.requires.1.1

pub returns : goal.returns
returns c = let most : c.args.stock.now.width ≤ width = search rules in
    at-step c.args.t.now c.args.h c.args.k c.requires.0 _ (c.requires.1.0.width, most)
    _ _ c.record_at-a.ensures c.record_size.ensures
    (λ (W : ℕ) (p : Peer). on_start (terms c.args.g c.args.stock.now.groups.now) (call c.args.g (commits_in c.args.stock.now)) p) _ _ (search rules)
    c.on_start.ensures
