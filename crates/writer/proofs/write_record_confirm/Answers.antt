-- `writer::write_record_confirm` meets its contract: each branch by its law of Laws.
use Rattle.record.specs.Reading.{peer_in}
use Rattle.writer.proofs.Laws.{confirm-run, confirm-early, confirm-link, confirm-none}
use Rattle.writer.proofs.write_record_confirm.Goals as goal

pub returns-then-state-eq2 : goal.returns-then-state-eq2
returns-then-state-eq2 c = confirm-run (peer_in c.args.peer.now) _ _ _ c.state-state.ensures _ _ _ c.if-state-eq2.true c.sc-sc.ensures c.write_confirm.ensures

pub returns-then-state-ne0 : goal.returns-then-state-ne0
returns-then-state-ne0 c = confirm-early (peer_in c.args.peer.now) _ _ _ c.state-state.ensures c.if-state-eq2.false c.if-state-ne0.true

pub returns-then-finished-ne0 : goal.returns-then-finished-ne0
returns-then-finished-ne0 c = confirm-link (peer_in c.args.peer.now) _ _ _ c.state-state.ensures c.if-state-ne0.false _ c.finished-finished.ensures _ _
    c.if-finished-ne0.true c.write_confirm-then-finished-ne0.ensures

pub returns : goal.returns
returns c = confirm-none (peer_in c.args.peer.now) _ _ _ c.state-state.ensures c.if-state-ne0.false _ c.finished-finished.ensures c.if-finished-ne0.false
