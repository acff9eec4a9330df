use Rattle.std.proofs.Common.{sym, ◌∙◌}
use Rattle.causes.proofs.Laws.{handed-on}
use Rattle.table.proofs.Laws.{looked}
use Rattle.moves.proofs.Moving.{move-unsound, move-other, few-groups, move-hindered, target_fits, move-misfits, carried, move-done}
use Rattle.moves.proofs.move_table.Goals as goal

pub returns-in_err-header : goal.returns-in_err-header
returns-in_err-header c = move-unsound _ _ _ _ _ (handed-on _ _ c.from_residual.ensures.1) (sym c.check.ensures ∙ c.in_err-header.was)

pub returns-then-header-from : goal.returns-then-header-from
returns-then-header-from c = move-other c.args.d c.args.source.now c.args.target.now _ (looked _ _ (sym c.check.ensures ∙ c.in_ok-header.was)) _ c.source-from.ensures c.if-header-from.true

pub hinder-requires : goal.hinder-requires
hinder-requires c = few-groups c.args.d c.args.source.now c.args.target.now _ (looked _ _ (sym c.check.ensures ∙ c.in_ok-header.was))

pub returns-in_err-hinder : goal.returns-in_err-hinder
returns-in_err-hinder c = move-hindered c.args.d c.args.source.now c.args.target.now _ (looked _ _ (sym c.check.ensures ∙ c.in_ok-header.was)) _ c.source-from.ensures c.if-header-from.false
    _ _ (handed-on _ _ c.from_residual-in_err-hinder.ensures.1) (sym c.hinder.ensures ∙ c.in_err-hinder.was)

pub record_at-requires : goal.record_at-requires
record_at-requires c = target_fits c.args.d c.args.source.now c.args.target.now _ (looked _ _ (sym c.check.ensures ∙ c.in_ok-header.was)) _ c.source-from.ensures c.if-header-from.false
    _ (sym c.hinder.ensures ∙ c.in_ok-hinder.was) _ c.target-to.ensures

pub returns-then-target-record_at : goal.returns-then-target-record_at
returns-then-target-record_at c = move-misfits c.args.d c.args.source.now c.args.target.now _ (looked _ _ (sym c.check.ensures ∙ c.in_ok-header.was)) _ c.source-from.ensures c.if-header-from.false
    _ (sym c.hinder.ensures ∙ c.in_ok-hinder.was) _ c.target-to.ensures _ c.record_at.ensures c.if-target-record_at.true

pub carry-requires : goal.carry-requires
carry-requires c = carried c.args.d c.args.source.now c.args.target.now _ (looked _ _ (sym c.check.ensures ∙ c.in_ok-header.was)) _ c.source-from.ensures c.if-header-from.false
    _ (sym c.hinder.ensures ∙ c.in_ok-hinder.was) _ c.target-to.ensures _ c.record_at.ensures c.if-target-record_at.false

pub returns : goal.returns
returns c = move-done c.args.d c.args.source.now c.args.target.now _ (looked _ _ (sym c.check.ensures ∙ c.in_ok-header.was)) _ c.source-from.ensures c.if-header-from.false
    _ (sym c.hinder.ensures ∙ c.in_ok-hinder.was) _ c.target-to.ensures _ _ c.record_at.ensures c.if-target-record_at.false c.carry.ensures
