use Rattle.perform.proofs.Switches.{switch-room, switch-law, switch-none}
use Rattle.perform.proofs.switch_group.Goals as goal

pub fresh_at-own-requires : goal.fresh_at-own-requires
fresh_at-own-requires c = switch-room _ _ _ _ _ c.first_left.ensures c.in-Some.is

pub returns-in-Some : goal.returns-in-Some
returns-in-Some c = switch-law _ _ _ _ _ _ _ _ _ _ _ _ _ _ _ c.group-ours.ensures c.rejected-before.ensures c.index_of-i.ensures.0 c.marked_with-rejected.ensures c.first_left.ensures c.in-Some.is
    c.fresh_at-own.ensures.1 c.switch_to.ensures

pub returns-in-None : goal.returns-in-None
returns-in-None c = switch-none _ _ _ _ _ _ _ _ _ _ _ _ c.group-ours.ensures c.rejected-before.ensures c.index_of-i.ensures.0 c.marked_with-rejected.ensures c.first_left.ensures c.in-None.is
    c.abandon.ensures
