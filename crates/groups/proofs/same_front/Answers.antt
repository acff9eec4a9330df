use mathlib.Core.Path.{refl, ◌∙◌}
use Rattle.groups.proofs.Laws.{front_same}
use borrow.Author.Rules.{rules}
use Rattle.groups.proofs.same_front.Goals as goal

pub returns-then-n-eq-COMMIT_20 : goal.returns-then-n-eq-COMMIT_20
returns-then-n-eq-COMMIT_20 c = front_same _ _ _ _ _ c.if-n-eq-COMMIT_20.true (search rules) (search rules) c.same_part.ensures

pub returns-then-n-k : goal.returns-then-n-k
returns-then-n-k c = front_same _ _ _ _ _ refl (search rules) (search rules) c.same_part-then-n-k.ensures

pub returns-then-k-eq-COMMIT_19 : goal.returns-then-k-eq-COMMIT_19
returns-then-k-eq-COMMIT_19 c = c.same_filled-then-k-eq-COMMIT_19.ensures ∙ rw c.if-n-ne-COMMIT_20.false refl
