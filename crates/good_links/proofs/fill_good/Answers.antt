use Rattle.good_links.proofs.GoodLinks.{fill-uncounted, countable-long, countable-reaches, counted-long, fill-counted, fill-kept, fill-put-back}
use borrow.Author.Rules.{rules}
use Rattle.std.proofs.Common.{ap}
use Rattle.std.specs.Prelude.{not}
use Rattle.good_links.proofs.fill_good.Goals as goal

pub returns-then-not-is_countable : goal.returns-then-not-is_countable
returns-then-not-is_countable c = fill-uncounted c.args.t.now _ (λ i. search rules) c.is_countable.ensures (ap not c.if-not-is_countable.true)

pub header_of-h-requires : goal.header_of-h-requires
header_of-h-requires c = countable-long _ _ c.is_countable.ensures (ap not c.if-not-is_countable.false)

pub counts_below-counts-requires : goal.counts_below-counts-requires
counts_below-counts-requires c = countable-reaches _ _ c.is_countable.ensures (ap not c.if-not-is_countable.false) _ _ c.header_of-h.ensures c.width_of-w.ensures.0 c.width_of-w.ensures.1

pub set_good-requires : goal.set_good-requires
set_good-requires c = countable-long _ _ c.is_countable.ensures (ap not c.if-not-is_countable.false)

pub set_good-requires-then-not-is_sound : goal.set_good-requires-then-not-is_sound
set_good-requires-then-not-is_sound c = counted-long _ _ c.is_countable.ensures (ap not c.if-not-is_countable.false) _ _ c.set_good.ensures

pub returns-then-not-is_sound : goal.returns-then-not-is_sound
returns-then-not-is_sound c = fill-put-back c.args.t.now _ c.is_countable.ensures (ap not c.if-not-is_countable.false) _ _ _ _ (λ i. search rules) c.header_of-h.ensures
    (fill-counted _ _ c.is_countable.ensures (ap not c.if-not-is_countable.false) _ _ _ c.header_of-h.ensures c.counts_below-counts.ensures.1.1 c.set_good.ensures)
    c.set_good-then-not-is_sound.ensures c.is_sound.ensures (ap not c.if-not-is_sound.true)

pub returns : goal.returns
returns c = fill-kept c.args.t.now _ c.is_countable.ensures (ap not c.if-not-is_countable.false) _ _
    (fill-counted _ _ c.is_countable.ensures (ap not c.if-not-is_countable.false) _ _ _ c.header_of-h.ensures c.counts_below-counts.ensures.1.1 c.set_good.ensures)
    c.is_sound.ensures (ap not c.if-not-is_sound.false)
