use Rattle.std.proofs.Common.{ap, refl}
use Rattle.answers.specs.Answers.{telling}
use Prim.Native.Nat.{◌≤◌}
use Rattle.groups.specs.Groups.{width}
use Rattle.message.specs.Received.{message_in, terms_in, call_in}
use Rattle.engine.proofs.Headers.{blank-fits, blank-length, blank-free, blank-whole}
use Rattle.engine.proofs.Frames.{outside-refused, outside-said, outside-says}
use borrow.Author.Rules.{rules}
use Rattle.engine.proofs.hear_outside.Goals as goal

pub slice_bounds-s-end : goal.slice_bounds-s-end
slice_bounds-s-end c = let most : c.args.heard.now.stock.width ≤ width = search rules in
    blank-fits _ most _ c.record_size-size.ensures

pub slice_bounds-on_frame-end : goal.slice_bounds-on_frame-end
slice_bounds-on_frame-end c = let most : c.args.heard.now.stock.width ≤ width = search rules in
    blank-length _ most _ c.record_size-size.ensures

pub on_frame-said-requires : goal.on_frame-said-requires
on_frame-said-requires c = let most : c.args.heard.now.stock.width ≤ width = search rules in
    blank-whole _ most _ c.record_size-size.ensures c.args.heard.now.given.clock c.requires

pub returns-then-said : goal.returns-then-said
returns-then-said c = let most : c.args.heard.now.stock.width ≤ width = search rules in
    outside-refused _ _ _ _
    (outside-says (terms_in c.args.heard.now) (call_in c.args.heard.now) (message_in c.args.heard.now) _ _ _ _
    (blank-free _ most _ c.record_size-size.ensures) c.on_frame-said.ensures) c.if-said.true refl

pub returns : goal.returns
returns c = let most : c.args.heard.now.stock.width ≤ width = search rules in
    outside-said _ _ _ _
    (outside-says (terms_in c.args.heard.now) (call_in c.args.heard.now) (message_in c.args.heard.now) _ _ _ _
    (blank-free _ most _ c.record_size-size.ensures) c.on_frame-said.ensures) c.if-said.false (ap telling c.say.ensures)
