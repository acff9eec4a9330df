use Rattle.std.specs.Prelude.{ℕ, Option}
use Rattle.std.specs.Prelude.{Option}
use mathlib.Core.Path.{subst}
use Rattle.engine.specs.InSlot.{Held}
use Rattle.engine.proofs.Headers.{held-reached}
use Rattle.engine.proofs.Starts.{state-there, state-none}
use Rattle.engine.proofs.state_of.Goals as goal

pub state_at-requires : goal.state_at-requires
state_at-requires c = held-reached _ c.args.h _ (subst (λ (f : Option ℕ). Held c.args.t.now c.args.h f) c.in-Some.is c.requires) _
    c.width_of-w.ensures

pub returns-in-Some : goal.returns-in-Some
returns-in-Some c = state-there _ _ _ _ c.in-Some.is c.state_at.ensures

pub returns-in-None : goal.returns-in-None
returns-in-None c = state-none _ _ c.in-None.is
