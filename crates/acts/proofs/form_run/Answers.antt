use mathlib.Core.Path.{ap, ◌∙◌}
use native.Mathlib.Omega.{arith}
use Rattle.rules.specs.Book.{formed_run}
use Rattle.groups.proofs.Laws.{cut-long}
use Rattle.acts.proofs.Laws.{form-law}
use borrow.Author.Rules.{rules}
use Rattle.acts.proofs.form_run.Goals as goal

pub put_stored-requires : goal.put_stored-requires
put_stored-requires c = let n = c.put32.auto.s ∙ c.put16-2.auto.s ∙ c.put16.auto.s ∙ c.put8-3.auto.s ∙ c.put8-2.auto.s ∙ c.put8.auto.s ∙ c.requires.1.0 in
    (omega (arith, c.run_peer_at-peer.ensures, n), (c.requires.1.1.0, c.requires.1.1.1.0))

pub returns : goal.returns
returns c = let t = c.requires.1.1.1 in
    form-law _ _ _ _ _ _ _ _ _ _ c.args.group _ c.args.clock c.t0_at-at.result c.requires.1.0 (search rules) (search rules) c.t0_at-at.ensures (cut-long _ _ c.requires.1.1.0 t.0) c.run_peer_at-peer.ensures
    c.put8.ensures c.put8-2.ensures c.put8-3.ensures c.put16.ensures c.put16-2.ensures c.put32.ensures c.put_stored.ensures
    ∙ ap (formed_run _ _ _ _) t.1.same
