use Rattle.std.proofs.Common.{ap, not}
use Rattle.table.proofs.Laws.{sound-long, sound-by, checked-unsound, checked-whole}
use Rattle.table.proofs.check.Goals as goal

pub returns-then-not-is_sound : goal.returns-then-not-is_sound
returns-then-not-is_sound c = checked-unsound _ _ c.is_sound.ensures (ap not c.if-not-is_sound.true)

pub header_of-requires : goal.header_of-requires
header_of-requires c = sound-long _ (sound-by _ _ c.is_sound.ensures (ap not c.if-not-is_sound.false))

pub returns : goal.returns
returns c = checked-whole _ _ _ c.is_sound.ensures (ap not c.if-not-is_sound.false) c.header_of.ensures
