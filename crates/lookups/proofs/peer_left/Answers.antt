use Rattle.std.proofs.Common.{◌∙◌}
use Rattle.lookups.proofs.Laws.{peer-law, min-lesser}
use Rattle.lookups.proofs.peer_left.Goals as goal

pub returns : goal.returns
returns c = peer-law _ _ _ _ _ _ _ _ _ c.state-state.ensures c.t0-t0.ensures
    c.finished-finished.ensures c.t1-t1.ensures c.left_if-run.ensures
    c.left_if-link.ensures (c.min.ensures ∙ min-lesser _ _)
