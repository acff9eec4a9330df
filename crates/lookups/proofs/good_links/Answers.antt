use Rattle.lookups.proofs.GoodLinks.{good-other, good-refused, good-answered}
use Rattle.std.proofs.Common.{ap}
use Rattle.std.specs.Prelude.{not}
use Rattle.lookups.proofs.good_links.Goals as goal

pub returns-then-header-ne-HEADER : goal.returns-then-header-ne-HEADER
returns-then-header-ne-HEADER c = good-other _ c.if-header-ne-HEADER.true

pub returns-then-not-is_possible : goal.returns-then-not-is_possible
returns-then-not-is_possible c = good-refused _ c.if-header-ne-HEADER.false _ c.header_of-h.ensures _ c.is_possible.ensures (ap not c.if-not-is_possible.true)

pub returns : goal.returns
returns c = good-answered _ c.if-header-ne-HEADER.false _ c.header_of-h.ensures _ c.is_possible.ensures (ap not c.if-not-is_possible.false)
