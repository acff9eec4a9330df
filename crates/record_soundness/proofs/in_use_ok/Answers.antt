use Rattle.soundness.proofs.Tests.{in-use-law}
use Rattle.record_soundness.proofs.in_use_ok.Goals as goal

pub returns : goal.returns
returns c = in-use-law _ _ _ _ _ _ _ _ _ _ _ _ _ _ c.requires.0 c.link_at-at.ensures c.record_size-end.ensures c.get8-used.ensures
    c.take-address.ensures c.get8-state.ensures c.get8-finished.ensures c.is_usable-usable.ensures c.run_ok-run.ensures c.link_ok-link.ensures
