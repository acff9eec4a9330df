use Rattle.record.specs.Codec.{cut}
use Rattle.record.specs.Layout.{decode_run, run_of, run_widths}
use Rattle.soundness.proofs.Tests.{marks-at, marks-none}
use Rattle.record_soundness.proofs.rejected_ok.Goals as goal

pub returns-in-Some : goal.returns-in-Some
unfolding decode_run run_of run_widths cut
returns-in-Some c = marks-at c.args.groups.now (decode_run c.args.w c.args.s.now) _ _ _ c.get8-rejected.ensures c.get16-group.ensures c.place_of.ensures _ _ _ c.in-Some.is c.is_marked-own.ensures c.marks_from-past.ensures

pub returns-in-None : goal.returns-in-None
unfolding decode_run run_of run_widths cut
returns-in-None c = marks-none c.args.groups.now (decode_run c.args.w c.args.s.now) _ _ _ c.get8-rejected.ensures c.get16-group.ensures c.place_of.ensures c.in-None.is
