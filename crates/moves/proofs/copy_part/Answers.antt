use mathlib.Core.Path.{ap, ◌∙◌}
use Rattle.octets.specs.Octets.{put}
use Rattle.moves.proofs.Records.{slice-part}
use Rattle.moves.proofs.copy_part.Goals as goal

pub returns : goal.returns
returns c = let a = c.args in c.copy_in.ensures ∙ ap (put a.t.now a.to) (slice-part a.s.now a.from a.n)
