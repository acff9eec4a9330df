use mathlib.Core.Path.{ap, ◌∙◌}
use Rattle.soundness.specs.Soundness.{peer_ok}
use Rattle.table.proofs.Octets.{window-law}
use Rattle.table.proofs.slot_ok.Goals as goal

pub returns : goal.returns
returns c = c.peer_ok.ensures ∙ ap (peer_ok c.args.own c.args.groups.now c.args.high) (window-law c.args.t.now c.args.w c.args.k _ c.requires.0 c.record_at-a.ensures _ c.record_size.ensures)
