use Rattle.message.proofs.Laws.{heard-commit, heard-none}
use Rattle.message.proofs.commit.Goals as goal

pub returns-then-listed : goal.returns-then-listed
returns-then-listed c = heard-commit _ _ _ _ _ c.if-listed.true c.commit_of.ensures

pub returns : goal.returns
returns c = heard-none c.args.body.now _ _ _ c.if-listed.false
