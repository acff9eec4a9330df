use mathlib.Core.Path.{◌≡◌}
use Rattle.std.proofs.Common.{ap, not}
use borrow.Author.Rules.{rules}
use lib.ListN.{length}
use Rattle.engine.proofs.Headers.{few-counted, stock-asks, listed-asks, listed-fresh, held-header}
use Rattle.engine.proofs.Starts.{start-stock, start-running, start-go}
use Rattle.engine.proofs.admit_start.Goals as goal

pub listed-requires : goal.listed-requires
listed-requires c = few-counted c.args.h (held-header _ _ _ c.requires)

pub fresh_ok-requires : goal.fresh_ok-requires
fresh_ok-requires c =
    let three : length c.args.h.settings.groups ≡ 3 = search rules in
    listed-asks _ _ _ c.args.fresh.now c.listed.ensures (stock-asks c.args.h (held-header _ _ _ c.requires) three _ c.width_of-w.ensures.0 c.width_of-w.ensures.1)

pub returns-then-not-fresh_ok : goal.returns-then-not-fresh_ok
returns-then-not-fresh_ok c = start-stock _ c.args.h _ _ _ _ c.requires.header c.width_of-w.ensures.0 (listed-fresh _ _ _ _ c.listed.ensures _ c.fresh_ok.ensures) (ap not c.if-not-fresh_ok.true)

pub returns-then-state-ne0 : goal.returns-then-state-ne0
returns-then-state-ne0 c =
    start-running _ c.args.h _ _ _ _ c.requires.header c.width_of-w.ensures.0 (listed-fresh _ _ _ _ c.listed.ensures _ c.fresh_ok.ensures)
    _ (ap not c.if-not-fresh_ok.false) c.state_of-state.ensures c.if-state-ne0.true

pub returns : goal.returns
returns c =
    start-go _ c.args.h _ _ _ _ c.requires.header c.width_of-w.ensures.0 (listed-fresh _ _ _ _ c.listed.ensures _ c.fresh_ok.ensures)
    _ (ap not c.if-not-fresh_ok.false) c.state_of-state.ensures c.if-state-ne0.false
