-- `writer::write_peer` meets its contract: each branch by its law of Laws.
use Rattle.record.specs.Reading.{peer_in}
use Rattle.writer.proofs.Laws.{body-commit, body-confirm, body-neither}
use Rattle.writer.proofs.write_peer.Goals as goal

pub returns-then-sequence-eq1 : goal.returns-then-sequence-eq1
returns-then-sequence-eq1 c = body-commit _ (peer_in c.args.peer.now) _ _ _ _ _ c.if-sequence-eq1.true c.write_run_commit.ensures

pub returns-then-sequence-eq2 : goal.returns-then-sequence-eq2
returns-then-sequence-eq2 c = body-confirm _ (peer_in c.args.peer.now) _ _ _ _ _ c.if-sequence-eq1.false c.if-sequence-eq2.true c.write_record_confirm.ensures

pub returns : goal.returns
returns c = body-neither _ (peer_in c.args.peer.now) _ _ _ c.if-sequence-eq1.false c.if-sequence-eq2.false
