-- `sae::settings_of` meets its contract: each return by its law of Laws.
use Rattle.sae.proofs.Laws.{settings-are}
use Rattle.sae.proofs.settings_of.Goals as goal

pub returns : goal.returns
returns c = settings-are _ _ _ _ _ _ _ _ c.get8-count.ensures c.get16-first.ensures c.get16-second.ensures c.get16-third.ensures c.get16-threshold.ensures
    c.get16-period.ensures c.get8-limit.ensures
