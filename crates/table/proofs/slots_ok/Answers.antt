use Rattle.std.proofs.Common.{ℕ, rules, tests, refl, ◌∙◌, arith}
use Rattle.std.proofs.lemmas.Iterator.{YieldsList-from_range}
use Rattle.std.proofs.lemmas.Iterator.Search.{all_from_yields_List}
use Rattle.soundness.specs.Soundness.{peer_ok}
use Rattle.table.specs.Table.{decode_table, slot}
use Rattle.std.proofs.iter.Serving.{serving}
use Rattle.table.proofs.Laws.{reach}
use Rattle.table.proofs.Keys.{all-range}
use Rattle.table.proofs.slots_ok.Goals as goal

pub all-requires-clause-callable : goal.all-requires-clause-callable
all-requires-clause-callable c = grind (serving, reach)

pub returns : goal.returns
returns c = let a = c.args in
    let f = λ (k : ℕ). peer_ok a.own a.groups.now a.high (slot (decode_table a.t.now) k) in
    all_from_yields_List f _ _ c.all.result c.all.ensures.ran (YieldsList-from_range 0 a.n a.n refl (omega arith)) (λ x b q k. search (rules, tests)) ∙ all-range f a.n
