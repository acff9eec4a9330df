use Rattle.std.proofs.Common.{sym, ◌∙◌}
use Rattle.causes.proofs.Laws.{handed-on}
use Rattle.table.proofs.Laws.{looked}
use Rattle.writer.proofs.Laws.{few}
use Rattle.sae.proofs.Laws.{reading-unsound, reading-malformed, read_length, reading-parts}
use Rattle.sae.proofs.read.Goals as goal

pub listed-requires : goal.listed-requires
listed-requires c = few _ _ (looked _ _ (sym c.check.ensures ∙ c.in_ok-header.was))

pub parts_octets-requires : goal.parts_octets-requires
parts_octets-requires c = read_length _ _ c.in_ok-header.header (looked _ _ (sym c.check.ensures ∙ c.in_ok-header.was)) _ c.listed.ensures _ _ c.read.ensures.view c.in-Some.is

pub returns-in_default : goal.returns-in_default
returns-in_default c = reading-malformed _ _ c.in_ok-header.header (looked _ _ (sym c.check.ensures ∙ c.in_ok-header.was)) _ c.listed.ensures _ c.read.ensures.view c.in_default.is

pub returns : goal.returns
returns c = reading-parts _ _ c.in_ok-header.header (looked _ _ (sym c.check.ensures ∙ c.in_ok-header.was)) _ c.listed.ensures _ _ c.read.ensures.view c.in-Some.is _ c.parts_octets.ensures

pub returns-in_err-header : goal.returns-in_err-header
returns-in_err-header c = handed-on _ _ c.from_residual.ensures.1 ∙ reading-unsound _ _ _ (sym c.check.ensures ∙ c.in_err-header.was)
