use Prim.Native.Nat.{ℕ, ◌≤◌}
use native.Mathlib.Omega.{arith}
use Rattle.groups.specs.Groups.{width}
use Rattle.message.specs.Received.{message_in, terms_in, call_in}
use Rattle.record.specs.declared.Peer.{Peer}
use Rattle.rules.specs.Book.{on_frame}
use Rattle.engine.proofs.Headers.{held-reached, window-whole}
use Rattle.engine.proofs.Windows.{at-step}
use borrow.Author.Rules.{rules}
use Rattle.engine.proofs.frame_at.Goals as goal

pub record_at-a-requires : goal.record_at-a-requires
record_at-a-requires c = let most : c.args.heard.now.stock.width ≤ width = search rules in
    (most, omega (arith, (held-reached _ c.args.h _ c.requires.0 _ (c.requires.1.0.width, most)).long))

pub overflow_add-e : goal.overflow_add-e
overflow_add-e c = let most : c.args.heard.now.stock.width ≤ width = search rules in
    omega (arith, (held-reached _ c.args.h _ c.requires.0 _ (c.requires.1.0.width, most)).long)

pub slice_bounds-on_frame-end : goal.slice_bounds-on_frame-end
slice_bounds-on_frame-end c = let most : c.args.heard.now.stock.width ≤ width = search rules in
    omega (arith, (held-reached _ c.args.h _ c.requires.0 _ (c.requires.1.0.width, most)).long)

pub on_frame-requires : goal.on_frame-requires
on_frame-requires c = let most : c.args.heard.now.stock.width ≤ width = search rules in
    window-whole _ c.args.h _ c.requires.0 _ (c.requires.1.0.width, most)
    _ _ c.record_at-a.ensures c.record_size.ensures
    c.args.heard.now.given.clock (λ i. search rules) c.requires.1.1

pub returns : goal.returns
returns c = let most : c.args.heard.now.stock.width ≤ width = search rules in
    at-step c.args.t.now c.args.h c.args.k c.requires.0 _ (c.requires.1.0.width, most)
    _ _ c.record_at-a.ensures c.record_size.ensures
    (λ (W : ℕ) (p : Peer). on_frame (terms_in c.args.heard.now) (call_in c.args.heard.now) p (message_in c.args.heard.now))
    _ _ (search rules) c.on_frame.ensures
