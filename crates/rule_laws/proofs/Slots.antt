-- NO SLOT: an act refuses if it is NoSlot, which no ladder names where a slot is free; where none is, an address without a record keeps none.
use mathlib.Core.Path.{◌≡◌, refl, ap, ◌∙◌}
use mathlib.Core.Bool.{Bool, true, false}
use native.Mathlib.Omega.{arith}
use Rattle.std.specs.Prelude.{if◌then◌else◌}
use Rattle.octets.proofs.Scan.{clash}
use Rattle.record.specs.declared.Run.{Run}
use Rattle.record.specs.declared.Peer.{Peer}
use Rattle.record.specs.Layout.{no_run, no_link, no_peer}
use Rattle.rules.specs.Message.{Message}
use Rattle.rules.specs.declared.Frames.{Frames}
use Rattle.rules.specs.declared.Act.{Act}
use Rattle.rules.specs.declared.Act.TheVariants as act
use Rattle.rules.specs.Parts.{with_link}
use Rattle.rules.specs.declared.Clock.{Clock}
use Rattle.rules.specs.Book.{◌is◌, holds, Terms, Call, Step, silence, t0_due, perform, sending, answering, refusing, settled, abandoning, ending_link, retransmitting, dropping, forming, starting, switching, accepting, answering_commit, confirming_commit, replying_token, repeating_commit, repeating_refusal, resending_both, confirming_again, hearing_again, hearing_last, start_act, frame_act, clock_act, on_frame, on_clock, on_start}
use Rattle.rules.specs.Asked.{Asked, refuse_group, ask_token, no-slot, begin, answer_commit, confirm_commit, reply_token, switch_group, repeat_commit, repeat_refusal, resend_both, confirm_again, give_up, accept, hear_again, hear_last, end_link, drop}
use Rattle.rules.proofs.Ladders.{frame-asked}
use Rattle.rule_laws.specs.Slots.{is_no_slot}
use Rattle.rule_laws.proofs.Outcomes.{switch-outcomes, repeat-outcomes}

abbrev Seated : Step → Type 0
Seated s = s.refused ≡ false

-- a repeat sends or gives up
repeat-seated : (κ : Clock) (p : Peer) (r : Run) (fs : Frames) → Seated (retransmitting κ p r fs)
unfolding sending abandoning
repeat-seated κ p r fs = repeat-outcomes Seated κ p r fs (λ h. refl) (λ h. refl)

-- the free record has no run and no link
free-run : (p : Peer) → p ≡ no_peer → p.run.state ≡ 0
unfolding no_peer no_run
free-run p e = ap (λ (q : Peer). q.run.state) e

free-link : (p : Peer) → p ≡ no_peer → p.link.finished ≡ 0
unfolding no_peer no_link
free-link p e = ap (λ (q : Peer). q.link.finished) e

free_ended : (ending_link no_peer).peer ≡ no_peer
unfolding ending_link settled with_link no_peer no_run no_link
free_ended = refl

module _ (t : Terms) (c : Call) (p : Peer) (m : Message) where
  pub refused-act : (a : Act) → (perform t c p m a).refused ≡ is_no_slot a
  unfolding perform dropping answering refusing sending forming starting switching abandoning accepting ending_link answering_commit confirming_commit replying_token repeating_commit repeating_refusal resending_both confirming_again hearing_again hearing_last
  refused-act act.Drop = refl
  refused-act act.RefuseGroup = refl
  refused-act act.AskToken = refl
  refused-act act.NoSlot = refl
  refused-act act.AnswerCommit = refl
  refused-act act.ConfirmCommit = refl
  refused-act act.ReplyToken = repeat-seated c.clock p _ _
  refused-act act.SwitchGroup = switch-outcomes Seated c.clock p t.groups c.fresh (λ i g h. refl) (λ h. refl)
  refused-act act.RepeatCommit = repeat-seated c.clock p _ _
  refused-act act.RepeatRefusal = repeat-seated c.clock p _ _
  refused-act act.ResendBoth = refl
  refused-act act.ConfirmAgain = repeat-seated c.clock p _ _
  refused-act act.GiveUp = refl
  refused-act act.Accept = refl
  refused-act act.HearAgain = refl
  refused-act act.HearLast = refl
  refused-act act.EndLink = refl
  refused-act act.Begin = refl

  -- with a slot
  pub seated-act : {a : Act} → t.full ≡ false → Asked t c p m a → is_no_slot a ≡ false
  seated-act f (drop d) = refl
  seated-act f (refuse_group r z l) = refl
  seated-act f (ask_token r z l) = refl
  seated-act f (no-slot r e) = absurd (clash e f)
  seated-act f (begin r e) = refl
  seated-act f (answer_commit d r o e) = refl
  seated-act f (confirm_commit s o g e) = refl
  seated-act f (reply_token s z g) = refl
  seated-act f (switch_group s z g) = refl
  seated-act f (repeat_commit s z) = refl
  seated-act f (repeat_refusal s z l) = refl
  seated-act f (resend_both s z l g) = refl
  seated-act f (confirm_again s z) = refl
  seated-act f (give_up s z e) = refl
  seated-act f (accept s d z v) = refl
  seated-act f (hear_again r n l i v) = refl
  seated-act f (hear_last r n l i v) = refl
  seated-act f end_link = refl

  -- without a slot: an act that is not refused leaves the free record free
  pub unseated-act : {a : Act} → p ≡ no_peer → Asked t c p m a → t.full ≡ true → (perform t c p m a).refused ≡ false → (perform t c p m a).peer ≡ no_peer
  unfolding perform dropping answering refusing
  unseated-act e (drop d) f u = e
  unseated-act e (refuse_group r z l) f u = e
  unseated-act e (ask_token r z l) f u = e
  unseated-act e (no-slot r z) f u = e
  unseated-act e (begin r z) f u = absurd (clash f z)
  unseated-act e (answer_commit d r o z) f u = absurd (clash f (r (λ s. omega (arith, free-run p e))))
  unseated-act e (confirm_commit s o g z) f u = absurd (omega (arith, free-run p e))
  unseated-act e (reply_token s z g) f u = absurd (omega (arith, free-run p e))
  unseated-act e (switch_group s z g) f u = absurd (omega (arith, free-run p e))
  unseated-act e (repeat_commit s z) f u = absurd (omega (arith, free-run p e))
  unseated-act e (repeat_refusal s z l) f u = absurd (omega (arith, free-run p e))
  unseated-act e (resend_both s z l g) f u = absurd (omega (arith, free-run p e))
  unseated-act e (confirm_again s z) f u = absurd (omega (arith, free-run p e))
  unseated-act e (give_up s z h) f u = absurd (omega (arith, free-run p e))
  unseated-act e (accept s d z v) f u = absurd (omega (arith, free-run p e))
  unseated-act e (hear_again r n l i v) f u = absurd (n (free-link p e))
  unseated-act e (hear_last r n l i v) f u = absurd (n (free-link p e))
  unseated-act e end_link f u = ap (λ (q : Peer). (ending_link q).peer) e ∙ free_ended

  -- a frame
  pub frame_refused : (on_frame t c p m).refused ≡ is_no_slot (frame_act t c p m)
  unfolding on_frame
  frame_refused = refused-act (frame_act t c p m)

  pub frame-seated : t.full ≡ false → (on_frame t c p m).refused ≡ false
  frame-seated f = frame_refused ∙ seated-act f (frame-asked t c p m)

  pub frame-unseated : p ≡ no_peer → t.full ≡ true → (on_frame t c p m).refused ≡ false → (on_frame t c p m).peer ≡ no_peer
  unfolding on_frame
  frame-unseated e f u = unseated-act e (frame-asked t c p m) f u

-- a start: refused only where no slot is free
pub start-refused : (t : Terms) (c : Call) (p : Peer) → (on_start t c p).refused ≡ t.full
unfolding on_start start_act holds
start-refused t c p = refused-act t c p silence (start_act t) ∙ go t.full
  where
    go : (b : Bool) → is_no_slot (if b then act.NoSlot else act.Begin) ≡ b
    go true = refl
    go false = refl

pub start-seated : (t : Terms) (c : Call) (p : Peer) → t.full ≡ false → (on_start t c p).refused ≡ false
start-seated t c p f = start-refused t c p ∙ f

-- a deadline: the clock's acts refuse nothing
pub clock-seated : (t : Terms) (c : Call) (p : Peer) → (on_clock t c p).refused ≡ false
unfolding on_clock clock_act
clock-seated t c p = refused-act t c p silence (clock_act p c.clock.time) ∙ go (holds (t0_due p c.clock.time)) (p.run.state is 2)
  where
    go : (a b : Bool) → is_no_slot (if a then (if b then act.ConfirmAgain else act.RepeatCommit) else act.EndLink) ≡ false
    go true true = refl
    go true false = refl
    go false b = refl
