use Rattle.table.proofs.Octets.{recount-law}
use borrow.Author.Rules.{rules}
use Rattle.table.proofs.recount.Goals as goal

pub returns : goal.returns
returns c = recount-law c.args.t.now _ _ _ (λ i. search rules) c.requires.whole c.set_counts.ensures c.counts_after-n.ensures
