use Rattle.record.specs.Codec.{cut}
use Rattle.record.specs.Layout.{decode_run, run_of, run_widths}
use Rattle.soundness.specs.Soundness.{commit_ok}
use Rattle.soundness.proofs.Tests.{peer-zeros, committed-by}
use Rattle.record_soundness.proofs.committed_ok.Goals as goal

pub returns : goal.returns
unfolding commit_ok decode_run run_of run_widths cut
returns c = let z = peer-zeros _ _ _ _ _ c.run_peer_at-at.ensures c.run_token_at-end.ensures c.zero_all-peer.ensures in
    let f = committed-by c.args.groups.now c.args.high (decode_run c.args.w c.args.s.now) in
    cc
