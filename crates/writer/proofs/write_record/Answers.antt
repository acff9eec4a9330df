-- `writer::write_record` meets its contract: each branch by its law of Laws.
use Rattle.std.proofs.Common.{sym, ◌∙◌}
use Rattle.table.specs.Table.{Reached}
use Rattle.causes.proofs.Laws.{handed-on}
use Rattle.table.proofs.Laws.{enters}
use Rattle.writer.proofs.Laws.{few, none-found, at-reached, at-whole, at-bounded, record-refused, record-absent, record-drawn}
use borrow.Author.Rules.{rules}
use Rattle.writer.proofs.write_record.Goals as goal

pub record_at-a-requires : goal.record_at-a-requires
record_at-a-requires c = let in_table : Reached c.args.t.now c.width_of-w.result c.in-Some.k = at-reached _ _ _ (enters _ _ _ (sym c.enter.ensures ∙ c.in_ok-header.was)) _ c.in-Some.is _ c.width_of-w.ensures in search (rules, in_table.long)

pub overflow_add-e : goal.overflow_add-e
overflow_add-e c = let in_table : Reached c.args.t.now c.width_of-w.result c.in-Some.k = at-reached _ _ _ (enters _ _ _ (sym c.enter.ensures ∙ c.in_ok-header.was)) _ c.in-Some.is _ c.width_of-w.ensures in search (rules, in_table.long)

pub listed-requires : goal.listed-requires
listed-requires c = let e = enters _ _ _ (sym c.enter.ensures ∙ c.in_ok-header.was) in few _ _ e.looked

pub slice_bounds-peer-end : goal.slice_bounds-peer-end
slice_bounds-peer-end c = let in_table : Reached c.args.t.now c.width_of-w.result c.in-Some.k = at-reached _ _ _ (enters _ _ _ (sym c.enter.ensures ∙ c.in_ok-header.was)) _ c.in-Some.is _ c.width_of-w.ensures in search (rules, in_table.long)

pub invariant_of-peer : goal.invariant_of-peer
invariant_of-peer c =
    record {
      most = c.width_of-w.ensures.1;
      whole = at-whole _ _ _ (enters _ _ _ (sym c.enter.ensures ∙ c.in_ok-header.was)) _ c.in-Some.is _ c.width_of-w.ensures _ _ c.record_at-a.ensures c.record_size.ensures;
    }

pub write_peer-requires : goal.write_peer-requires
write_peer-requires c = at-bounded _ _ _ (enters _ _ _ (sym c.enter.ensures ∙ c.in_ok-header.was)) _ c.in-Some.is _ c.width_of-w.ensures _ _ c.record_at-a.ensures c.record_size.ensures

pub returns-in_err-header : goal.returns-in_err-header
returns-in_err-header c = record-refused _ _ _ _ _ _ _ (handed-on _ _ c.from_residual.ensures.1) (sym c.enter.ensures ∙ c.in_err-header.was)

pub returns-in_default : goal.returns-in_default
returns-in_default c = record-absent _ _ _ _ _ _ (enters _ _ _ (sym c.enter.ensures ∙ c.in_ok-header.was)) (none-found _ c.in_default.not-Some)

pub returns : goal.returns
returns c = record-drawn _ _ _ (enters _ _ _ (sym c.enter.ensures ∙ c.in_ok-header.was)) _ c.in-Some.is _ c.width_of-w.ensures _ _ c.record_at-a.ensures c.record_size.ensures
    _ _ _ _ _ _ c.listed.ensures c.write_peer.ensures
