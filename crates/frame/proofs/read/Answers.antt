-- `frame::read` meets its contract: each branch by its law of Reading.
use Rattle.frame.proofs.Reading.{head-algorithm, head-sequence, body-short, body-long, body-unlike, body-commit, body-confirm, body-neither}
use Rattle.frame.proofs.read.Goals as goal

pub returns-then-frame-lt-SHORTEST : goal.returns-then-frame-lt-SHORTEST
returns-then-frame-lt-SHORTEST c = body-short _ _ c.if-frame-lt-SHORTEST.true

pub returns-then-frame-gt-LONGEST : goal.returns-then-frame-gt-LONGEST
returns-then-frame-gt-LONGEST c = body-long _ _ c.if-frame-lt-SHORTEST.false c.if-frame-gt-LONGEST.true

pub returns-then-algorithm-ne-SAE : goal.returns-then-algorithm-ne-SAE
returns-then-algorithm-ne-SAE c = body-unlike _ _ _ c.if-frame-lt-SHORTEST.false c.if-frame-gt-LONGEST.false (head-algorithm _ _ c.head_of-head.ensures) c.if-algorithm-ne-SAE.true

pub returns-then-sequence-eq-COMMITS : goal.returns-then-sequence-eq-COMMITS
returns-then-sequence-eq-COMMITS c = body-commit _ _ _ c.if-frame-lt-SHORTEST.false c.if-frame-gt-LONGEST.false (head-algorithm _ _ c.head_of-head.ensures) _ (head-sequence _ _ c.head_of-head.ensures) c.if-algorithm-ne-SAE.false _ c.if-sequence-eq-COMMITS.true c.read_commit.ensures

pub returns-then-sequence-eq-CONFIRMS : goal.returns-then-sequence-eq-CONFIRMS
returns-then-sequence-eq-CONFIRMS c = body-confirm _ _ _ c.if-frame-lt-SHORTEST.false c.if-frame-gt-LONGEST.false (head-algorithm _ _ c.head_of-head.ensures) _ (head-sequence _ _ c.head_of-head.ensures) c.if-algorithm-ne-SAE.false _ c.if-sequence-eq-CONFIRMS.true c.read_confirm.ensures

pub returns : goal.returns
returns c = body-neither _ _ _ c.if-frame-lt-SHORTEST.false c.if-frame-gt-LONGEST.false (head-algorithm _ _ c.head_of-head.ensures) _ (head-sequence _ _ c.head_of-head.ensures) c.if-algorithm-ne-SAE.false c.if-sequence-eq-COMMITS.false c.if-sequence-eq-CONFIRMS.false
