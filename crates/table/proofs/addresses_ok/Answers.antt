use Rattle.table.proofs.Laws.{addresses-few, addresses-all}
use Rattle.table.proofs.addresses_ok.Goals as goal

pub returns-then-used-lt2 : goal.returns-then-used-lt2
returns-then-used-lt2 c = λ e. addresses-few _ _ c.if-used-lt2.true e

pub returns-then-n-le-FEW : goal.returns-then-n-le-FEW
returns-then-n-le-FEW c = λ e. addresses-all _ _ _ c.requires.1.1 c.differ_in.ensures

pub returns : goal.returns
returns c = λ e. addresses-all _ _ _ c.requires.1.1 c.differ_in-2.ensures
