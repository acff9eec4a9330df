use Rattle.acts.proofs.Laws.{finish-law}
use borrow.Author.Rules.{rules}
use Rattle.acts.proofs.finish_link.Goals as goal

pub returns : goal.returns
returns c = finish-law _ _ _ _ _ _ _ _ _ c.args.sync c.args.group c.args.counter c.args.time c.t1_at-t1.result c.requires (search rules) (search rules) (search rules) (search rules) c.t1_at-t1.ensures
    c.put8.ensures c.put8-2.ensures c.put8-3.ensures c.put8-4.ensures c.put16.ensures c.put16-2.ensures c.put32.ensures
