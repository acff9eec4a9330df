use Rattle.std.proofs.Common.{ap}
use Rattle.answers.specs.Answers.{telling}
use mathlib.Core.Path.{sym, ◌∙◌}
use Prim.Native.Nat.{◌≤◌}
use Rattle.groups.specs.Groups.{width}
use Rattle.groups.specs.Stocked.{commits_in}
use Rattle.message.specs.Received.{message_in}
use Rattle.engine.proofs.Headers.{held-header, held-sized, held_at, held-reached, paced}
use Rattle.engine.proofs.Windows.{slot-changed}
use Rattle.engine.proofs.Starts.{slotless-clocked}
use Rattle.engine.proofs.Frames.{hear-seated, hear-unseated}
use borrow.Author.Rules.{rules}
use Rattle.engine.proofs.hear.Goals as goal

pub seat_of-requires : goal.seat_of-requires
seat_of-requires c = let most : c.args.heard.now.stock.width ≤ width = search rules in held-sized _ c.args.h _ c.requires.0 _ (c.requires.1.0.width, most)

pub standing_of-was-requires : goal.standing_of-was-requires
standing_of-was-requires c = let most : c.args.heard.now.stock.width ≤ width = search rules in
    held-reached _ c.args.h _ (held_at _ c.args.h _ _ c.requires.0
    (sym c.seat_of.ensures ∙ c.in-Some.is)) _
    (c.requires.1.0.width, most)

pub frame_at-said-requires : goal.frame_at-said-requires
frame_at-said-requires c = (held_at _ c.args.h _ _ c.requires.0 (sym c.seat_of.ensures ∙ c.in-Some.is), (c.requires.1.0, c.requires.1.1.clock))

pub finish_at-requires : goal.finish_at-requires
finish_at-requires c = slot-changed _ c.args.h _ (held_at _ c.args.h _ _ c.requires.0
    (sym c.seat_of.ensures ∙ c.in-Some.is)) _ _ _ _
    (search rules) c.frame_at-said.ensures c.standing_of-was.ensures

pub hear_outside-requires : goal.hear_outside-requires
hear_outside-requires c = paced _ c.args.h (held-header _ _ _ c.requires.0) (slotless-clocked c.args.h c.args.heard.now.given _ c.requires.1.1 c.without_slot-slotless.ensures)

pub returns : goal.returns
returns c = let d = c.args.heard.now in
    hear-seated c.args.t.now c.args.h c.args.f c.requires.0 d.given c.requires.1.1 (message_in d) d.stock.groups.now c.requires.1.0.groups (commits_in d.stock)
    _ _ _ _ _ _ (λ i. search rules)
    c.seat_of.ensures
    c.in-Some.is
    c.frame_at-said.ensures (ap telling c.finish_at.ensures.0, c.finish_at.ensures.1)

pub returns-in_default : goal.returns-in_default
returns-in_default c = let d = c.args.heard.now in
    hear-unseated c.args.t.now c.args.h c.args.f c.requires.0 d.given c.requires.1.1 (message_in d) d.stock.groups.now c.requires.1.0.groups (commits_in d.stock)
    _ _ _ (λ i. search rules)
    c.seat_of.ensures c.in_default.is c.without_slot-slotless.ensures c.hear_outside.ensures
