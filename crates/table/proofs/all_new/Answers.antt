use Rattle.std.proofs.Common.{rules, tests, refl, ◌∙◌, arith}
use Rattle.std.proofs.lemmas.Iterator.{YieldsList-from_range}
use Rattle.std.proofs.lemmas.Iterator.Search.{all_from_yields_List}
use Rattle.table.specs.Table.{new_key}
use Rattle.table.proofs.Keys.{all-range}
use Rattle.table.proofs.all_new.Goals as goal

pub returns : goal.returns
returns c =
    let k = c.args.keys.now in
    all_from_yields_List (new_key k) _ _ c.all.result c.all.ensures.ran (YieldsList-from_range 0 c.args.n c.args.n refl (omega arith)) (λ x b q k. search (rules, tests)) ∙ all-range (new_key k) c.args.n
