use Rattle.perform.proofs.Runs.{store-token-law}
use borrow.Author.Rules.{rules}
use Rattle.perform.proofs.store_token.Goals as goal

pub returns : goal.returns
returns c = store-token-law _ _ _ _ _ _ _ c.run_token_at-at.ensures c.put16.ensures c.put_array.ensures c.requires.0 (search rules) (search rules)
