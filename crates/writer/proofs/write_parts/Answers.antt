-- `writer::write_parts` meets its contract: each branch by its law of Laws.
use Rattle.std.proofs.Common.{sym, ◌∙◌}
use Rattle.causes.proofs.Laws.{handed-on}
use Rattle.table.proofs.Laws.{looked}
use Rattle.writer.proofs.Laws.{few, parts-refused, parts-drawn}
use Rattle.writer.proofs.write_parts.Goals as goal

pub listed-requires : goal.listed-requires
listed-requires c = few _ _ (looked _ _ (sym c.check.ensures ∙ c.in_ok-header.was))

pub returns-in_err-header : goal.returns-in_err-header
returns-in_err-header c = parts-refused _ _ _ _ _ _ _ _ _ _ (handed-on _ _ c.from_residual.ensures.1) (sym c.check.ensures ∙ c.in_err-header.was)

pub returns : goal.returns
returns c = parts-drawn _ _ _ _ _ _ _ _ _ _ _ (looked _ _ (sym c.check.ensures ∙ c.in_ok-header.was)) _ c.listed.ensures c.write_parts.ensures
