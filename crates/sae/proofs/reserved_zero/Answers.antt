-- `sae::reserved_zero` meets its contract: each return by its law of Laws.
use Rattle.record.specs.SettingsOctets.{reserved_zero}
use Rattle.sae.proofs.reserved_zero.Goals as goal

pub returns : goal.returns
unfolding reserved_zero
returns c = cc (c.zero_part-a.ensures, c.zero_part-b.ensures)
