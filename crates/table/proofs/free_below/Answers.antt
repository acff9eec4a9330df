use Rattle.table.proofs.Laws.{reach}
use borrow.Author.Tests.{eq-eqb, ne_eqb}
use Rattle.octets.proofs.Scan.{last_found, last_step, last-through}
use native.Mathlib.Omega.{arith}
use mathlib.Core.Path.{refl, sym, ◌∙◌}
use Rattle.table.proofs.free_below.Goals as goal

pub loop-k-init : goal.loop-k-init
loop-k-init c = refl

pub used_at-requires : goal.used_at-requires
used_at-requires c = reach c.args.t.now c.args.w c.args.n _ c.requires (omega (arith, c.loop-k.auto.k, c.loop-k-test.true))

pub returns-then-used_at-eq0 : goal.returns-then-used_at-eq0
returns-then-used_at-eq0 c = last_found _ _ _ c.loop-k.invariant c.loop-k-test.true (eq-eqb _ _ (sym c.used_at.ensures ∙ c.if-used_at-eq0.true))

pub loop-k-preserved : goal.loop-k-preserved
loop-k-preserved c = last_step _ _ _ c.loop-k.invariant c.loop-k-test.true (ne_eqb _ _ (λ e. c.if-used_at-eq0.false (c.used_at.ensures ∙ e)))

pub returns : goal.returns
returns c = last-through _ _ _ c.loop-k.invariant c.loop-k-test.false
