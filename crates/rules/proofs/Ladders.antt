-- Whatever act a ladder names, its row in Asked holds. The one place where the rungs are gone through; every law of the rules is then by act.
use mathlib.Core.Path.{◌≡◌, refl, sym, ◌∙◌, subst}
use mathlib.Core.Bool.{Bool, true, false, not, ◌&&◌}
use mathlib.Core.Logic.{◌⊎◌, inl, inr}
use Prim.Native.Nat.{ℕ, ◌≤◌}
use native.Mathlib.Omega.{arith}
use lib.Dec.{eqb}
use borrow.Author.Tests.{eqb-true, eqb-false, ltb-true, ltb-false, not-true, not-false}
use Rattle.std.specs.Prelude.{if◌then◌else◌}
use Rattle.octets.proofs.Scan.{and_left}
use Rattle.octets.specs.Octets.{same, higher}
use Rattle.record.specs.declared.Peer.{Peer}
use Rattle.rules.specs.Message.{Message}
use Rattle.rules.specs.declared.Act.{Act}
use Rattle.rules.specs.declared.Act.TheVariants.{ResendBoth, HearAgain}
use Rattle.rules.specs.Given.{Able}
use Rattle.rules.specs.Book.{◌is◌, ◌isnt◌, ◌above◌, holds, unsupported, Terms, Call, wrong_token, linked_with, t0_due, our_fresh, silence, start_act, commit_idle, commit_committed, commit_confirmed, confirm_committed, confirm_confirmed, confirm_linked, clock_act, commit_act, confirm_act, frame_act}
use Rattle.rules.specs.Asked.{NoRun, Asked, refuse_group, ask_token, no-slot, begin, answer_commit, confirm_commit, reply_token, switch_group, repeat_commit, repeat_refusal, resend_both, confirm_again, give_up, accept, hear_again, hear_last, end_link, drop, Supported, Entitled, idle_status, idle_linked, idle_token, idle_equal, idle_verdict, committed_76, committed_77, committed_status, lower_verdict, lower_equal, ours_equal, ours_verdict, committed_confirm, confirmed_status, confirmed_group, confirmed_confirm, confirmed_verdict, link_status, link_counter, link_verdict, neither}

-- a rung: the act that it names if its test holds, and the rungs below if not
rung : (P : Act → Type 0) (b : Bool) (x y : Act) → (b ≡ true → P x) → (b ≡ false → P y) → P (if b then x else y)
rung P true x y f g = f refl
rung P false x y f g = g refl

is_zero : (n : ℕ) → not (eqb n 0) ≡ false → n ≡ 0
is_zero n e = eqb-true n 0 (not-false (eqb n 0) e)

not_zero : (n : ℕ) → not (eqb n 0) ≡ true → n ≡ 0 → ⊥
not_zero n e = eqb-false n 0 (not-true (eqb n 0) e)

module _ (t : Terms) (c : Call) (p : Peer) (m : Message) where
  abbrev Names : Act → Type 0
  Names a = Asked t c p m a

  -- a start: it is refused where a run is in being
  pub start-asked : NoRun p → Names (start_act t)
  unfolding start_act holds
  start-asked r = rung Names t.full _ _ (λ e. no-slot r e) (λ e. begin r e)

  -- a Commit
  module _ (f : m.sequence ≡ 1) where
    supported : m.status ≡ 0 → unsupported m ≡ false → Supported m
    supported z l = record { commit = f; status = z; listed = l }

    idle-asked : NoRun p → Names (commit_idle t c p m)
    unfolding commit_idle holds
    idle-asked r =
        rung Names (m.status isnt 0) _ _ (λ e. drop (idle_status r f (not_zero _ e)))
        (λ z. rung Names (not m.listed) _ _ (λ e. refuse_group r (is_zero _ z) (not-true _ e))
        (λ l. let s = supported (is_zero _ z) l in
        rung Names (linked_with p.link m) _ _ (λ e. drop (idle_linked r s e))
        (λ u. rung Names (t.crowded && (m.toklen is 0)) _ _ (λ e. ask_token r (is_zero _ z) (not-false _ l))
        (λ k. let w : Entitled t m = record { supported = s; token = k } in
        rung Names (wrong_token t c m) _ _ (λ e. drop (idle_token r w e))
        (λ x. rung Names (same m.commit (our_fresh t c m)) _ _ (λ e. drop (idle_equal r w e))
        (λ o. rung Names (not c.verified) _ _ (λ e. drop (idle_verdict r w e))
        (λ v. rung Names t.full _ _ (λ e. no-slot r e)
        (λ n. answer_commit r.not_confirmed (λ d. n) (record { status = is_zero _ z; listed = not-false _ l; verified = not-false _ v }) o))))))))

    committed-asked : p.run.state ≡ 1 → Names (commit_committed t c p m)
    unfolding commit_committed holds
    committed-asked s =
        rung Names (m.status is 76) _ _
        (λ e. rung Names (m.group is p.run.group) _ _ (λ g. reply_token s (eqb-true _ _ e) (eqb-true _ _ g)) (λ g. drop (committed_76 s f (eqb-true _ _ e) (eqb-false _ _ g))))
        (λ x. rung Names (m.status is 77) _ _
        (λ e. rung Names (m.group is p.run.group) _ _ (λ g. switch_group s (eqb-true _ _ e) (eqb-true _ _ g)) (λ g. drop (committed_77 s f (eqb-true _ _ e) (eqb-false _ _ g))))
        (λ y. rung Names (m.status isnt 0) _ _ (λ e. drop (committed_status s f (eqb-false _ _ x) (eqb-false _ _ y) (not_zero _ e)))
        (λ z. rung Names (not m.listed) _ _ (λ e. repeat_refusal s (is_zero _ z) (not-true _ e))
        (λ l. let k = supported (is_zero _ z) l in
        rung Names (m.group isnt p.run.group) _ _
        (λ g. rung Names (higher t.own c.address) _ _ (λ e. repeat_commit s (is_zero _ z))
        (λ h. rung Names (not c.verified) _ _ (λ e. drop (lower_verdict s k (eqb-false _ _ (not-true _ g)) h e))
        (λ v. rung Names (same m.commit (our_fresh t c m)) _ _ (λ e. drop (lower_equal s k (eqb-false _ _ (not-true _ g)) h e))
        (λ o. answer_commit (λ q. omega arith) (λ d. absurd (d s)) (record { status = is_zero _ z; listed = not-false _ l; verified = not-false _ v }) o))))
        (λ g. let b = eqb-true _ _ (not-false _ g) in
        rung Names (same m.commit p.run.own) _ _ (λ e. drop (ours_equal s k b e))
        (λ o. rung Names (not c.verified) _ _ (λ e. drop (ours_verdict s k b e))
        (λ v. confirm_commit s (record { status = is_zero _ z; listed = not-false _ l; verified = not-false _ v }) b o)))))))

    confirmed-asked : p.run.state ≡ 2 → Names (commit_confirmed c p m)
    unfolding commit_confirmed
    confirmed-asked s =
        rung Names (m.status isnt 0) _ _ (λ e. drop (confirmed_status s f (not_zero _ e)))
        (λ z. rung Names (p.run.sync above c.clock.limit) _ _ (λ e. give_up s (is_zero _ z) (ltb-true _ _ e))
        (λ l. rung Names (m.group isnt p.run.group) _ _ (λ e. drop (confirmed_group s f (ltb-false _ _ l) (eqb-false _ _ (not-true _ e))))
        (λ g. resend_both s (is_zero _ z) (ltb-false _ _ l) (eqb-true _ _ (not-false _ g)))))

    pub commit-asked : Names (commit_act t c p m)
    unfolding commit_act
    commit-asked =
        rung Names (p.run.state is 1) _ _ (λ e. committed-asked (eqb-true _ _ e))
        (λ d₁. rung Names (p.run.state is 2) _ _ (λ e. confirmed-asked (eqb-true _ _ e))
        (λ d₂. idle-asked (record { not_committed = eqb-false _ _ d₁; not_confirmed = eqb-false _ _ d₂ })))

  -- a Confirm
  module _ (f : m.sequence ≡ 1 → ⊥) where
    confirm-committed-asked : p.run.state ≡ 1 → Names (confirm_committed m)
    unfolding confirm_committed
    confirm-committed-asked s = rung Names (m.status isnt 0) _ _ (λ e. drop (committed_confirm s f (not_zero _ e))) (λ z. repeat_commit s (is_zero _ z))

    confirm-confirmed-asked : p.run.state ≡ 2 → Names (confirm_confirmed c m)
    unfolding confirm_confirmed holds
    confirm-confirmed-asked s =
        rung Names (m.status isnt 0) _ _ (λ e. drop (confirmed_confirm s f (not_zero _ e)))
        (λ z. rung Names (not c.verified) _ _ (λ e. drop (confirmed_verdict s f e)) (λ v. accept s f (is_zero _ z) (not-false _ v)))

    confirm-linked-asked : NoRun p → (p.link.finished ≡ 0 → ⊥) → Names (confirm_linked c p m)
    unfolding confirm_linked holds
    confirm-linked-asked r n =
        rung Names (m.status isnt 0) _ _ (λ e. drop (link_status r n f (not_zero _ e)))
        (λ z. rung Names (p.link.sync above c.clock.limit) _ _ (λ e. end_link)
        (λ l. let b = ltb-false _ _ l in
        rung Names (not (m.counter above p.link.rc)) _ _ (λ e. drop (link_counter r n f b (ltb-false _ _ (not-true _ e))))
        (λ h. rung Names (not c.verified) _ _ (λ e. drop (link_verdict r n f b e))
        (λ v. rung Names (m.counter is 65535) _ _ (λ e. hear_last r n b (ltb-true _ _ (not-false _ h)) (not-false _ v))
        (λ e. hear_again r n b (ltb-true _ _ (not-false _ h)) (not-false _ v))))))

    pub confirm-asked : Names (confirm_act c p m)
    unfolding confirm_act
    confirm-asked =
        rung Names (p.run.state is 1) _ _ (λ e. confirm-committed-asked (eqb-true _ _ e))
        (λ d₁. rung Names (p.run.state is 2) _ _ (λ e. confirm-confirmed-asked (eqb-true _ _ e))
        (λ d₂. let r : NoRun p = record { not_committed = eqb-false _ _ d₁; not_confirmed = eqb-false _ _ d₂ } in
        rung Names (p.link.finished isnt 0) _ _ (λ e. confirm-linked-asked r (not_zero _ e)) (λ n. drop (neither r (is_zero _ n) f))))

  pub frame-asked : Names (frame_act t c p m)
  unfolding frame_act
  frame-asked = rung Names (m.sequence is 1) _ _ (λ e. commit-asked (eqb-true _ _ e)) (λ e. confirm-asked (eqb-false _ _ e))

-- a deadline: "t0 before t1"
pub clock-asked : (t : Terms) (c : Call) (p : Peer) → (p.run.state ≡ 0) ⊎ ((p.run.state ≡ 1) ⊎ (p.run.state ≡ 2)) → Asked t c p silence (clock_act p c.clock.time)
unfolding clock_act holds t0_due
clock-asked t c p states =
    rung (Asked t c p silence) (t0_due p c.clock.time) _ _
    (λ q. rung (Asked t c p silence) (p.run.state is 2) _ _ (λ e. confirm_again (eqb-true _ _ e) refl)
    (λ d. repeat_commit (one states (eqb-false _ _ (not-true _ (and_left _ _ q))) (eqb-false _ _ d)) refl))
    (λ e. end_link)
  where
    one : (p.run.state ≡ 0) ⊎ ((p.run.state ≡ 1) ⊎ (p.run.state ≡ 2)) → (p.run.state ≡ 0 → ⊥) → (p.run.state ≡ 2 → ⊥) → p.run.state ≡ 1
    one (inl e) d₀ d₂ = absurd (d₀ e)
    one (inr (inl e)) d₀ d₂ = e
    one (inr (inr e)) d₀ d₂ = absurd (d₂ e)

-- what the two acts that count without a test of their own ask for
resend-low : (t : Terms) (c : Call) (p : Peer) (m : Message) → Asked t c p m ResendBoth → p.run.sync ≤ c.clock.limit
resend-low t c p m (resend_both s z l g) = l

hear-low : (t : Terms) (c : Call) (p : Peer) (m : Message) → Asked t c p m HearAgain → p.link.sync ≤ c.clock.limit
hear-low t c p m (hear_again r n l h v) = l

pub able : (t : Terms) (c : Call) (p : Peer) (m : Message) (a b : Act) → a ≡ b → Asked t c p m b → Able c.clock a p
able t c p m a b e k =
    record {
      resend = λ q. resend-low t c p m (subst (Asked t c p m) (sym e ∙ q) k);
      hear = λ q. hear-low t c p m (subst (Asked t c p m) (sym e ∙ q) k);
    }
