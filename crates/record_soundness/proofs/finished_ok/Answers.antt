use Rattle.record.specs.Codec.{cut}
use Rattle.record.specs.Layout.{decode_link, link_of, link_widths}
use Rattle.soundness.specs.Soundness.{finished_ok, commit_ok}
use Rattle.record_soundness.proofs.finished_ok.Goals as goal

pub returns : goal.returns
unfolding finished_ok commit_ok decode_link link_of link_widths cut
returns c = cc
