use Rattle.std.proofs.Common.{ap, ◌∙◌}
use Rattle.record.specs.declared.Peer.{Peer}
use Rattle.table.proofs.Octets.{window-law}
use Rattle.lookups.specs.Lookups.{peer_left}
use Rattle.lookups.proofs.left_at.Goals as goal

pub returns : goal.returns
returns c = c.peer_left.ensures
    ∙ ap (λ (p : Peer). peer_left p c.args.time) (window-law c.args.t.now c.args.w c.args.k _ c.requires c.record_at-a.ensures _ c.record_size.ensures)
