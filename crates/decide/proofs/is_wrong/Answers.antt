use Rattle.octets.proofs.Laws.{prefix-count}
use Rattle.decide.proofs.Rungs.{unasked, wrong-law}
use borrow.Author.Rules.{rules}
use Rattle.std.proofs.Common.{ap}
use Rattle.std.specs.Prelude.{not}
use Rattle.decide.proofs.is_wrong.Goals as goal

pub returns-then-not-crowded : goal.returns-then-not-crowded
returns-then-not-crowded c = unasked c.args.heard.now.given.crowded _ (ap not c.if-not-crowded.true)

pub slice_bounds-is_same-end : goal.slice_bounds-is_same-end
slice_bounds-is_same-end c = prefix-count _ _ (search rules)

pub returns : goal.returns
returns c = let k = c.args.heard.now in wrong-law k.given.crowded _ k.view.toklen _ _ k.given.expected (ap not c.if-not-crowded.false) c.token-token.ensures c.is_same-same.ensures
