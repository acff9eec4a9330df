use Rattle.record.specs.Codec.{cut}
use Rattle.record.specs.Layout.{decode_run, run_of, run_widths}
use Rattle.soundness.specs.Soundness.{token_ok}
use Rattle.record_soundness.proofs.token_ok.Goals as goal

pub returns : goal.returns
unfolding token_ok decode_run run_of run_widths cut
returns c = cc
