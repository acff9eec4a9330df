-- THE DROPS: the places of Drops are exactly those where the ladders name Drop; there the record is as it was and nothing is said. That nothing is said is not
-- enough: a link's last Confirm is no drop.
use mathlib.Core.Path.{◌≡◌, refl, ap, subst}
use mathlib.Core.Bool.{Bool, true, false, not}
use Prim.Native.Nat.{◌≤◌, ◌<◌}
use borrow.Author.Tests.{eq-eqb, ne_eqb, le-ltb, lt-ltb}
use Rattle.std.specs.Prelude.{if◌then◌else◌}
use Rattle.record.specs.declared.Peer.{Peer}
use Rattle.rules.specs.Parts.{heard_again, with_link}
use Rattle.rules.specs.Message.{Message}
use Rattle.rules.specs.declared.Act.{Act}
use Rattle.rules.specs.declared.Act.TheVariants.{Drop}
use Rattle.rules.specs.declared.Frames.TheVariants.{None}
use Rattle.rules.specs.Book.{◌isnt◌, ◌above◌, holds, Terms, Call, linked_with, linked, wrong_token, equals_fresh, equals_own, unverified, answering, dropping, hearing_last, perform, commit_idle, commit_committed, commit_confirmed, confirm_committed, confirm_confirmed, confirm_linked, commit_act, confirm_act, frame_act, on_frame}
use Rattle.rules.specs.Asked.{NoRun, Asked, drop, Drops, idle_status, idle_linked, idle_token, idle_equal, idle_verdict, committed_76, committed_77, committed_status, lower_verdict, lower_equal, ours_equal, ours_verdict, committed_confirm, confirmed_status, confirmed_group, confirmed_confirm, confirmed_verdict, link_status, link_counter, link_verdict, neither}
use Rattle.rules.proofs.Ladders.{frame-asked}

-- a rung that drops, above one that does
drops-too : (b : Bool) (x : Act) → x ≡ Drop → (if b then Drop else x) ≡ Drop
drops-too true x e = refl
drops-too false x e = e

module _ (t : Terms) (c : Call) (p : Peer) (m : Message) where
  -- every place is a drop
  pub drop_named : Drops t c p m → frame_act t c p m ≡ Drop
  unfolding frame_act commit_act confirm_act commit_idle commit_committed commit_confirmed confirm_committed confirm_confirmed confirm_linked holds linked_with
  drop_named (idle_status r f d) = rw (f, ne_eqb _ _ r.not_committed, ne_eqb _ _ r.not_confirmed, ne_eqb _ _ d) refl
  drop_named (idle_linked r s e) = rw (s.commit, s.status, s.listed, ne_eqb _ _ r.not_committed, ne_eqb _ _ r.not_confirmed, e) refl
  drop_named (idle_token r w e) =
      let s = w.supported in
      rw (s.commit, s.status, s.listed, ne_eqb _ _ r.not_committed, ne_eqb _ _ r.not_confirmed, w.token, e) (drops-too (linked p m) Drop refl)
  drop_named (idle_equal r w e) =
      let s = w.supported in
      rw (s.commit, s.status, s.listed, ne_eqb _ _ r.not_committed, ne_eqb _ _ r.not_confirmed, w.token, e)
      (drops-too (linked p m) _ (drops-too (wrong_token t c m) Drop refl))
  drop_named (idle_verdict r w e) =
      let s = w.supported in
      rw (s.commit, s.status, s.listed, ne_eqb _ _ r.not_committed, ne_eqb _ _ r.not_confirmed, w.token, e)
      (drops-too (linked p m) _ (drops-too (wrong_token t c m) _ (drops-too (equals_fresh t c m) Drop refl)))
  drop_named (committed_76 s f e d) = rw (s, f, e, ne_eqb _ _ d) refl
  drop_named (committed_77 s f e d) = rw (s, f, e, ne_eqb _ _ d) refl
  drop_named (committed_status s f x y d) = rw (s, f, ne_eqb _ _ x, ne_eqb _ _ y, ne_eqb _ _ d) refl
  drop_named (lower_verdict s k d h e) = rw (s, k.commit, k.status, k.listed, ne_eqb _ _ d, h, e) refl
  drop_named (lower_equal s k d h e) = rw (s, k.commit, k.status, k.listed, ne_eqb _ _ d, h, e) (drops-too (unverified c) Drop refl)
  drop_named (ours_equal s k g e) = rw (s, k.commit, k.status, k.listed, eq-eqb _ _ g, e) refl
  drop_named (ours_verdict s k g e) = rw (s, k.commit, k.status, k.listed, eq-eqb _ _ g, e) (drops-too (equals_own p m) Drop refl)
  drop_named (committed_confirm s f d) = rw (s, ne_eqb _ _ f, ne_eqb _ _ d) refl
  drop_named (confirmed_status s f d) = rw (s, f, ne_eqb _ _ d) refl
  drop_named (confirmed_group s f l d) = rw (s, f, le-ltb _ _ l, ne_eqb _ _ d) (drops-too (m.status isnt 0) Drop refl)
  drop_named (confirmed_confirm s f d) = rw (s, ne_eqb _ _ f, ne_eqb _ _ d) refl
  drop_named (confirmed_verdict s f e) = rw (s, ne_eqb _ _ f, e) (drops-too (m.status isnt 0) Drop refl)
  drop_named (link_status r n f d) = rw (ne_eqb _ _ r.not_committed, ne_eqb _ _ r.not_confirmed, ne_eqb _ _ n, ne_eqb _ _ f, ne_eqb _ _ d) refl
  drop_named (link_counter r n f l e) =
      rw (ne_eqb _ _ r.not_committed, ne_eqb _ _ r.not_confirmed, ne_eqb _ _ n, ne_eqb _ _ f, le-ltb _ _ l, le-ltb _ _ e) (drops-too (m.status isnt 0) Drop refl)
  drop_named (link_verdict r n f l e) =
      rw (ne_eqb _ _ r.not_committed, ne_eqb _ _ r.not_confirmed, ne_eqb _ _ n, ne_eqb _ _ f, le-ltb _ _ l, e)
      (drops-too (m.status isnt 0) _ (drops-too (not (m.counter above p.link.rc)) Drop refl))
  drop_named (neither r n f) = rw (ne_eqb _ _ r.not_committed, ne_eqb _ _ r.not_confirmed, eq-eqb _ _ n, ne_eqb _ _ f) refl

  -- and there is no other
  place : Asked t c p m Drop → Drops t c p m
  place (drop d) = d

  pub named-drop : frame_act t c p m ≡ Drop → Drops t c p m
  named-drop e = place (subst (Asked t c p m) e (frame-asked t c p m))

  -- A DROP changes nothing and says nothing
  pub drop-unchanged : Drops t c p m → on_frame t c p m ≡ answering p None
  unfolding on_frame perform dropping
  drop-unchanged d = ap (perform t c p m) (drop_named d)

  -- NOT EVERY EMPTY ANSWER IS A DROP: a link's Confirm with counter 65,535 above Rc, the verdict being 1, answers nothing, and Rc becomes 65,535
  pub last-heard : NoRun p → (p.link.finished ≡ 0 → ⊥) → (m.sequence ≡ 1 → ⊥) → m.status ≡ 0 → p.link.sync ≤ c.clock.limit → p.link.rc < m.counter
      → m.counter ≡ 65535 → c.verified ≡ true → on_frame t c p m ≡ answering (with_link p (heard_again p.link 65535 p.link.sync)) None
  unfolding on_frame frame_act confirm_act confirm_linked holds perform hearing_last
  last-heard r n f z l h e v =
      rw (ne_eqb _ _ r.not_committed, ne_eqb _ _ r.not_confirmed, ne_eqb _ _ n, ne_eqb _ _ f, z, le-ltb _ _ l, lt-ltb _ _ h, v, e) refl
