use Rattle.engine.proofs.Headers.{few-counted, stock-wide, stock-some, stock-few, stock-each}
use Rattle.engine.proofs.stock_of.Goals as goal

pub listed-groups-requires : goal.listed-groups-requires
listed-groups-requires c = few-counted c.args.h.now c.requires.header

pub invariant_of-result : goal.invariant_of-result
invariant_of-result c =
    let S = c.requires in
    let e = c.width_of-width.ensures in
    record {
      wide = stock-wide c.args.h.now S.header S.places _ e.0;
      most = e.1;
      some = rw c.listed-groups.ensures (stock-some c.args.h.now S.header S.places _ e.0);
      few = rw c.listed-groups.ensures (stock-few c.args.h.now S.header S.places _ e.0);
      each = rw c.listed-groups.ensures (stock-each c.args.h.now S.header S.places _ e.0 c.args.fresh.now S.each);
    }
