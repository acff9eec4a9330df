use Rattle.record.specs.Codec.{cut}
use Rattle.record.specs.Layout.{decode_run, run_of, run_widths}
use Rattle.soundness.specs.Soundness.{confirmed_ok, commit_ok}
use Rattle.record_soundness.proofs.confirmed_ok.Goals as goal

pub returns : goal.returns
unfolding confirmed_ok commit_ok decode_run run_of run_widths cut
returns c = cc
