use mathlib.Core.Path.{refl}
use Rattle.soundness.proofs.Tests.{groups-more, groups-is-one, groups-is-two, groups-is-three, groups-else}
use borrow.Author.Rules.{rules}
use Rattle.soundness.proofs.groups_ok.Goals as goal

pub returns-then-form-n : goal.returns-then-form-n
returns-then-form-n c = groups-more _ _ _ c.if-form-n.true

pub returns-then-n-eq1 : goal.returns-then-n-eq1
returns-then-n-eq1 c = groups-is-one _ c.args.n c.args.gs (search rules) c.if-form-n.false _ refl _ c.is_listable-first.ensures c.if-n-eq1.true

pub returns-then-n-eq2 : goal.returns-then-n-eq2
returns-then-n-eq2 c = groups-is-two _ c.args.n c.args.gs (search rules) c.if-form-n.false _ refl _ c.is_listable-first.ensures _ c.is_listable-second.ensures c.if-n-eq2.true

pub returns-then-n-eq3 : goal.returns-then-n-eq3
returns-then-n-eq3 c = groups-is-three _ c.args.n c.args.gs (search rules) c.if-form-n.false _ refl _ c.is_listable-first.ensures _ c.is_listable-second.ensures _ c.if-n-eq3.true c.is_listable-third.ensures

pub returns : goal.returns
returns c = groups-else _ _ c.args.gs c.requires c.if-n-eq1.false c.if-n-eq2.false c.if-n-eq3.false
