use mathlib.Core.Path.{ap, ◌∙◌}
use Rattle.record.specs.declared.Peer.{Peer}
use Rattle.table.proofs.Octets.{window-law}
use Rattle.rules.specs.Book.{expired}
use Rattle.engine.proofs.is_expired_at.Goals as goal

pub returns : goal.returns
returns c = c.is_expired.ensures
    ∙ ap (λ (p : Peer). expired p c.args.time)
    (window-law c.args.t.now c.args.w c.args.k _ c.requires c.record_at-a.ensures _
    c.record_size.ensures)
