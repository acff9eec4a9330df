use Rattle.groups.specs.Stocked.{commits_in}
use Rattle.rules.specs.Given.{terms, call}
use Rattle.machine.proofs.Rules.{start-begins, start-refused}
use Rattle.machine.proofs.on_start.Goals as goal

pub returns-then-full : goal.returns-then-full
returns-then-full c = start-refused c.args.stock.now.width (terms c.args.g c.args.stock.now.groups.now) (call c.args.g (commits_in c.args.stock.now)) _ _ c.if-full.true c.say_refused.ensures

pub returns : goal.returns
returns c = start-begins c.args.stock.now.width (terms c.args.g c.args.stock.now.groups.now) (call c.args.g (commits_in c.args.stock.now)) _ _ _ c.if-full.false c.begin.ensures
