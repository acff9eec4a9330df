-- `frame::write_parts` meets its contract: each branch by its law of Drawing.
use Rattle.frame.proofs.Drawing.{parts-counter, parts-commit, parts-confirm, parts-neither}
use Rattle.frame.proofs.write_parts.Goals as goal

pub returns-then-counter-ne0 : goal.returns-then-counter-ne0
returns-then-counter-ne0 c = parts-counter _ _ _ _ _ _ _ _ c.if-sequence-eq-COMMITS.true c.if-counter-ne0.true

pub returns-then-sequence-eq-COMMITS : goal.returns-then-sequence-eq-COMMITS
returns-then-sequence-eq-COMMITS c = parts-commit _ _ _ _ _ _ _ _ _ _ c.if-sequence-eq-COMMITS.true c.if-counter-ne0.false c.write_commits.ensures

pub returns-then-sequence-eq-CONFIRMS : goal.returns-then-sequence-eq-CONFIRMS
returns-then-sequence-eq-CONFIRMS c = parts-confirm _ _ _ _ _ _ _ _ _ _ c.if-sequence-eq-CONFIRMS.true c.write_confirms.ensures

pub returns : goal.returns
returns c = parts-neither _ _ _ _ _ _ _ _ c.if-sequence-eq-COMMITS.false c.if-sequence-eq-CONFIRMS.false
