use mathlib.Core.Path.{sym, ◌∙◌}
use Rattle.answers.specs.Answers.{telling}
use Rattle.std.proofs.Common.{ap, refl}
use Rattle.engine.proofs.Headers.{held-sized, held_at, held-reached}
use Rattle.engine.proofs.Windows.{slot-changed}
use Rattle.engine.proofs.Starts.{given-clocked, stock-starts, started, start-full}
use borrow.Author.Rules.{rules}
use Rattle.engine.proofs.start.Goals as goal

pub seat_of-requires : goal.seat_of-requires
seat_of-requires c = held-sized _ c.args.h _ c.requires.0 _ c.width_of-w.ensures

pub standing_of-was-requires : goal.standing_of-was-requires
standing_of-was-requires c = held-reached _ c.args.h _ (held_at _ c.args.h _ _ c.requires.0
    (sym c.seat_of.ensures ∙ c.in-Some.is)) _
    c.width_of-w.ensures

pub start_at-said-requires : goal.start_at-said-requires
start_at-said-requires c = (held_at _ c.args.h _ _ c.requires.0 (sym c.seat_of.ensures ∙ c.in-Some.is), (c.stock_of-stock.ensures.1, given-clocked c.args.h _ _ _ _ _ c.given_of-g.ensures))

pub finish_at-requires : goal.finish_at-requires
finish_at-requires c = slot-changed _ c.args.h _ (held_at _ c.args.h _ _ c.requires.0
    (sym c.seat_of.ensures ∙ c.in-Some.is)) _ _ _ _
    (search rules) c.start_at-said.ensures c.standing_of-was.ensures

pub returns : goal.returns
returns c = started c.args.t.now c.args.h c.args.f c.requires.0 c.args.address c.args.time c.args.fresh.now _ _ _ _ _ _ _
    (λ i. search rules)
    c.seat_of.ensures
    c.in-Some.is
    c.given_of-g.ensures
    (stock-starts _ c.args.h c.args.fresh.now _ _ _ _ _ _ c.stock_of-stock.ensures.0 c.stock_of-stock.ensures.1 c.start_at-said.ensures) (ap telling c.finish_at.ensures.0, c.finish_at.ensures.1)

pub returns-in_default : goal.returns-in_default
returns-in_default c = start-full c.args.t.now c.args.h c.args.f c.requires.0 c.args.address c.args.time c.args.fresh.now _ _
    c.seat_of.ensures c.in_default.is refl
