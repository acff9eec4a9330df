-- What a rule sends is told by the record that it leaves: a Commit in the run's group, a Confirm with Sc, or with 65,535 for a link with no run.
use mathlib.Core.Path.{◌≡◌, refl}
use mathlib.Core.Logic.{◌⊎◌, inl, inr}
use Prim.Native.Nat.{ℕ, ◌+◌, ◌<◌}
use native.Mathlib.Omega.{arith}
use lib.Dec.{lit<}
use Rattle.record.specs.declared.Run.{Run}
use Rattle.record.specs.declared.Peer.{Peer}
use Rattle.rules.specs.Message.{Message}
use Rattle.rules.specs.declared.Act.{Act}
use Rattle.rules.specs.declared.Frame.{Frame}
use Rattle.rules.specs.declared.Frames.{Frames}
use Rattle.rules.specs.declared.Frames.TheVariants.{None, One, Two}
use Rattle.rules.specs.Parts.{with_sync, with_sc, with_token, switched, heard_again, with_run, with_link}
use Rattle.rules.specs.declared.Clock.{Clock}
use Rattle.rules.specs.Book.{Terms, Call, Step, silence, commit_frame, token_request_frame, group_refusal_frame, confirm_frame, set_t0, sending, answering, refusing, abandoning, ending_link, dropping, formed_run, forming, started_run, starting, accepting, answering_commit, confirming_commit, replying_token, repeating_commit, repeating_refusal, confirming_again, resending_both, hearing_last, hearing_again, perform, on_frame, on_clock, on_start}
use Rattle.rules.specs.Asked.{NoRun, Asked, refuse_group, ask_token, no-slot, begin, answer_commit, confirm_commit, reply_token, switch_group, repeat_commit, repeat_refusal, resend_both, confirm_again, give_up, accept, hear_again, hear_last, end_link, drop}
use Rattle.rules.proofs.Ladders.{start-asked, frame-asked, clock-asked}
use Rattle.rule_laws.proofs.Outcomes.{repeat-outcomes, switch-outcomes}

-- a frame, told by a record
pub data Told (p : Peer) : Frame → Type 0 where
  a_commit : {g : ℕ} → p.run.group ≡ g → (p.run.state ≡ 0 → ⊥) → Told p (commit_frame g)
  a_confirm : {n : ℕ} → p.run.sc ≡ n → p.run.state ≡ 2 → Told p (confirm_frame n)
  an_answer : p.run.state ≡ 0 → (p.link.finished ≡ 0 → ⊥) → Told p (confirm_frame 65535)
  a_request : {g : ℕ} → g < 65536 → Told p (token_request_frame g)
  a_refusal : {g : ℕ} → g < 65536 → Told p (group_refusal_frame g)

pub data Tells (p : Peer) : Frames → Type 0 where
  tell_none : Tells p None
  tell_one : {x : Frame} → Told p x → Tells p (One x)
  tell_two : {x y : Frame} → Told p x → Told p y → Tells p (Two x y)

pub record Truthful (s : Step) : Type 0 where
  pub tells : Tells s.peer s.frames

-- ---- frames of a run that is sent for

silent-end : (p : Peer) → Truthful (abandoning p)
unfolding abandoning
silent-end p = record { tells = tell_none }

send-commit : (κ : Clock) (p : Peer) (r : Run) (afresh : ℕ) → (r.state ≡ 0 → ⊥) → Truthful (sending κ p r (One (commit_frame r.group)) afresh)
unfolding sending with_run set_t0
send-commit κ p r afresh d = record { tells = tell_one (a_commit refl d) }

send-refusal : (κ : Clock) (p : Peer) (r : Run) (g : ℕ) → g < 65536 → Truthful (sending κ p r (One (group_refusal_frame g)) 0)
unfolding sending
send-refusal κ p r g h = record { tells = tell_one (a_refusal h) }

send-confirm : (κ : Clock) (p : Peer) (r : Run) → r.state ≡ 2 → Truthful (sending κ p r (One (confirm_frame r.sc)) 0)
unfolding sending with_run set_t0
send-confirm κ p r e = record { tells = tell_one (a_confirm refl e) }

send-both : (κ : Clock) (p : Peer) (r : Run) → r.state ≡ 2 → Truthful (sending κ p r (Two (commit_frame r.group) (confirm_frame r.sc)) 0)
unfolding sending with_run set_t0
send-both κ p r e = record { tells = tell_two (a_commit refl (λ z. omega arith)) (a_confirm refl e) }

-- ---- EVERY ACT

-- the states of a run that is sound
abbrev pub States : Peer → Type 0
States p = (p.run.state ≡ 0) ⊎ ((p.run.state ≡ 1) ⊎ (p.run.state ≡ 2))

no-run : (p : Peer) → States p → NoRun p → p.run.state ≡ 0
no-run p (inl e) r = e
no-run p (inr (inl e)) r = absurd (r.not_committed e)
no-run p (inr (inr e)) r = absurd (r.not_confirmed e)

module _ (t : Terms) (c : Call) (p : Peer) (m : Message) (h : m.group < 65536) (states : States p) where
  pub truthful-act : {a : Act} → Asked t c p m a → Truthful (perform t c p m a)
  unfolding perform dropping answering refusing abandoning ending_link formed_run forming set_t0 started_run starting accepting answering_commit confirming_commit replying_token repeating_commit repeating_refusal confirming_again resending_both hearing_last hearing_again with_sync with_sc with_token switched heard_again with_link
  truthful-act (drop d) = record { tells = tell_none }
  truthful-act (refuse_group r z l) = record { tells = tell_one (a_refusal h) }
  truthful-act (ask_token r z l) = record { tells = tell_one (a_request h) }
  truthful-act (no-slot r e) = record { tells = tell_none }
  truthful-act (begin r e) = record { tells = tell_one (a_commit refl (λ z. omega (arith, z))) }
  truthful-act (answer_commit d r o e) = record { tells = tell_two (a_commit refl (λ z. omega (arith, z))) (a_confirm refl refl) }
  truthful-act (confirm_commit s o g e) = record { tells = tell_one (a_confirm refl refl) }
  truthful-act (reply_token s z g) =
      repeat-outcomes Truthful c.clock p _ _ (λ e. silent-end p)
      (λ e. send-commit c.clock p (with_sync (with_token p.run m.toklen m.token) (p.run.sync + 1)) 0 (λ q. omega arith))
  truthful-act (switch_group s z g) =
      switch-outcomes Truthful c.clock p t.groups c.fresh (λ i k e. send-commit c.clock p (switched p.run _ k _) k (λ q. omega arith)) (λ e. silent-end p)
  truthful-act (repeat_commit s z) =
      repeat-outcomes Truthful c.clock p _ _ (λ e. silent-end p) (λ e. send-commit c.clock p (with_sync p.run (p.run.sync + 1)) 0 (λ q. omega arith))
  truthful-act (repeat_refusal s z l) = repeat-outcomes Truthful c.clock p _ _ (λ e. silent-end p) (λ e. send-refusal c.clock p _ m.group h)
  truthful-act (resend_both s z l g) = send-both c.clock p (with_sync (with_sc p.run (p.run.sc + 1)) (p.run.sync + 1)) s
  truthful-act (confirm_again s z) =
      repeat-outcomes Truthful c.clock p _ _ (λ e. silent-end p) (λ e. send-confirm c.clock p (with_sync (with_sc p.run (p.run.sc + 1)) (p.run.sync + 1)) s)
  truthful-act (give_up s z e) = record { tells = tell_none }
  truthful-act (accept s d z v) = record { tells = tell_none }
  truthful-act (hear_again r n l i v) = record { tells = tell_one (an_answer (no-run p states r) n) }
  truthful-act (hear_last r n l i v) = record { tells = tell_none }
  truthful-act end_link = record { tells = tell_none }

  -- every frame that is heard
  pub frame-tells : Truthful (on_frame t c p m)
  unfolding on_frame
  frame-tells = truthful-act (frame-asked t c p m)

-- a start, where no run is in being, and a deadline
module _ (t : Terms) (c : Call) (p : Peer) (states : States p) where
  pub start-tells : NoRun p → Truthful (on_start t c p)
  unfolding on_start
  start-tells r = truthful-act t c p silence (lit< tt) states (start-asked t c p silence r)

  pub clock-tells : Truthful (on_clock t c p)
  unfolding on_clock
  clock-tells = truthful-act t c p silence (lit< tt) states (clock-asked t c p states)
