use Rattle.moves.proofs.Moving.{forward-law, back-law}
use Rattle.moves.proofs.hinder.Goals as goal

pub returns-in-Forward : goal.returns-in-Forward
returns-in-Forward c = forward-law _ _ _ _ c.in-Forward.is c.has_more_slots.ensures c.unless.ensures

pub returns-in-Back : goal.returns-in-Back
returns-in-Back c = back-law _ _ _ _ c.in-Back.is c.lists_wide_group.ensures c.unless-in-Back.ensures
