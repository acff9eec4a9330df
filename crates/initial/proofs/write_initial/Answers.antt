use Rattle.initial.proofs.Initial.{refused-law, initial-by, long-by, written-law}
use native.Mathlib.Omega.{arith}
use Rattle.std.proofs.Common.{ap}
use Rattle.std.specs.Prelude.{not}
use Rattle.initial.proofs.write_initial.Goals as goal

pub returns-then-not-initial_ok : goal.returns-then-not-initial_ok
returns-then-not-initial_ok c = refused-law c.args.s c.args.own c.args.t.now _ c.initial_ok.ensures (ap not c.if-not-initial_ok.true)

pub slots_for-requires : goal.slots_for-requires
slots_for-requires c = long-by c.args.s c.args.own c.args.t.now _ c.initial_ok.ensures (ap not c.if-not-initial_ok.false)

pub overflow_cast-slots_for : goal.overflow_cast-slots_for
overflow_cast-slots_for c = omega (arith, (initial-by c.args.s c.args.own c.args.t.now _ c.initial_ok.ensures (ap not c.if-not-initial_ok.false)).few, c.slots_for.ensures)

pub store_fresh-requires : goal.store_fresh-requires
store_fresh-requires c = long-by c.args.s c.args.own c.args.t.now _ c.initial_ok.ensures (ap not c.if-not-initial_ok.false)

pub returns : goal.returns
returns c = written-law c.args.s c.args.own c.args.t.now _ _ _ _ c.initial_ok.ensures (ap not c.if-not-initial_ok.false) c.slots_for.ensures c.initial_header-h.ensures c.store_fresh.ensures
