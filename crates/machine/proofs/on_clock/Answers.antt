use mathlib.Core.List.{[]}
use Rattle.rules.specs.Given.{terms, call}
use Rattle.machine.proofs.Rules.{clock-ends, clock-confirms, clock-repeats}
use Rattle.std.proofs.Common.{ap}
use Rattle.std.specs.Prelude.{not}
use Rattle.machine.proofs.on_clock.Goals as goal

pub returns-then-not-first : goal.returns-then-not-first
returns-then-not-first c = clock-ends (terms c.args.g c.args.groups.now) (call c.args.g []) _ _ c.t0_due-first.ensures c.args.w _ _ (ap not c.if-not-first.true) c.end_link.ensures

pub returns-then-state-eq2 : goal.returns-then-state-eq2
returns-then-state-eq2 c = clock-confirms (terms c.args.g c.args.groups.now) (call c.args.g []) _ _ c.t0_due-first.ensures c.args.w _ _ _ (ap not c.if-not-first.false) c.state-state.ensures c.if-state-eq2.true c.confirm_again.ensures

pub returns : goal.returns
returns c = clock-repeats (terms c.args.g c.args.groups.now) (call c.args.g []) _ _ c.t0_due-first.ensures c.args.w _ _ _ (ap not c.if-not-first.false) c.state-state.ensures c.if-state-eq2.false c.repeat_commit.ensures
