use Prim.Native.Nat.{◌<◌}
use native.Mathlib.Omega.{arith}
use Rattle.table.proofs.Laws.{record-bound}
use Rattle.good_links.proofs.GoodLinks.{uncounted-short, countable-by}
use borrow.Author.Rules.{rules}
use Rattle.good_links.proofs.is_countable.Goals as goal

pub returns-then-t-lt-HEADER : goal.returns-then-t-lt-HEADER
returns-then-t-lt-HEADER c = uncounted-short _ c.if-t-lt-HEADER.true

pub record_at-requires : goal.record_at-requires
record_at-requires c = let h = c.header_of-h.result in
    let few : h.geometry.slots < 65536 = search rules in
    (c.width_of-w.ensures.1, omega (arith, record-bound c.width_of-w.result h.geometry.slots c.width_of-w.ensures.1 few))

pub returns : goal.returns
returns c = countable-by _ _ _ _ c.if-t-lt-HEADER.false c.header_of-h.ensures c.width_of-w.ensures.0 c.record_at.ensures
