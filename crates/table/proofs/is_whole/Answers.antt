use Prim.Native.Nat.{◌<◌}
use native.Mathlib.Omega.{arith}
use Rattle.table.proofs.Laws.{not-header-by, not-whole-by, whole_by, body-by, record-bound}
use borrow.Author.Rules.{rules}
use Rattle.std.proofs.Common.{ap}
use Rattle.std.specs.Prelude.{not}
use Rattle.table.proofs.is_whole.Goals as goal

pub returns-then-not-header_ok : goal.returns-then-not-header_ok
returns-then-not-header_ok c = not-header-by _ c.args.h c.requires.header _ c.header_ok.ensures (ap not c.if-not-header_ok.true)

pub record_at-requires : goal.record_at-requires
record_at-requires c = let few : c.args.h.geometry.slots < 65536 = search rules in
    (c.width_of-w.ensures.1, omega (arith, record-bound c.width_of-w.result c.args.h.geometry.slots c.width_of-w.ensures.1 few))

pub returns-then-t-record_at : goal.returns-then-t-record_at
returns-then-t-record_at c = not-whole-by _ c.args.h c.requires.header _ _ c.width_of-w.ensures.0 c.record_at.ensures c.if-t-record_at.true

pub body_ok-requires : goal.body_ok-requires
body_ok-requires c = whole_by _ c.args.h c.requires.header _ _ _ c.header_ok.ensures (ap not c.if-not-header_ok.false) c.width_of-w.ensures.0 c.record_at.ensures c.if-t-record_at.false

pub returns : goal.returns
returns c = body-by _ c.args.h c.requires.header _ _ _ _ c.requires.long c.header_ok.ensures (ap not c.if-not-header_ok.false) c.width_of-w.ensures.0 c.record_at.ensures c.if-t-record_at.false c.body_ok.ensures
