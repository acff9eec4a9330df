-- WHICH ACTS LEAVE THE DEADLINES as they were: those that send nothing and tell nothing; and any other sends a frame, or its run or link ends.
use mathlib.Core.Path.{◌≡◌, refl, sym, ap}
use mathlib.Core.Bool.{Bool, true, false}
use mathlib.Core.List.{List}
use Prim.Native.Nat.{ℕ}
use native.Mathlib.Omega.{arith}
use native.Mathlib.Decide.{ℕ_discrete}
use borrow.Author.Tests.{ne_eqb}
use Rattle.octets.proofs.Scan.{clash}
use Rattle.record.specs.declared.Run.{Run}
use Rattle.record.specs.declared.Link.{Link}
use Rattle.record.specs.declared.Peer.{Peer}
use Rattle.record.specs.Layout.{no_run, no_link, no_peer}
use Rattle.soundness.proofs.Laws.{run-unused, link-unused}
use Rattle.rules.specs.Message.{Message}
use Rattle.rules.specs.declared.Act.{Act}
use Rattle.rules.specs.declared.Act.TheVariants.{Drop, RefuseGroup, AskToken, NoSlot, AnswerCommit, ConfirmCommit, ReplyToken, SwitchGroup, RepeatCommit, RepeatRefusal, ResendBoth, ConfirmAgain, GiveUp, Accept, HearAgain, HearLast, EndLink, Begin}
use Rattle.rules.specs.declared.Event.{Event}
use Rattle.rules.specs.declared.Event.TheVariants as event
use Rattle.rules.specs.declared.Frames.{Frames}
use Rattle.rules.specs.declared.Frames.TheVariants.{None, One, Two}
use Rattle.rules.specs.Parts.{heard_again, with_run, with_link}
use Rattle.rules.specs.declared.Clock.{Clock}
use Rattle.rules.specs.Book.{has_run, has_link, Terms, Call, Step, sending, answering, dropping, refusing, abandoning, ending_link, retransmitting, forming, starting, accepting, answering_commit, confirming_commit, replying_token, repeating_commit, repeating_refusal, resending_both, confirming_again, hearing_again, hearing_last, perform}
use Rattle.rules.specs.Asked.{Asked, refuse_group, ask_token, no-slot, begin, answer_commit, confirm_commit, reply_token, switch_group, repeat_commit, repeat_refusal, resend_both, confirm_again, give_up, accept, hear_again, hear_last, end_link, drop}
use Rattle.rule_laws.specs.Deadlines.{Still, Ends, run_ends, link_ends}
use Rattle.rule_laws.proofs.Outcomes.{switch-outcomes, repeat-outcomes, settle-outcomes}
use Rattle.rule_laws.proofs.Keeps.{Kept, parts}

-- nothing is sent and nothing is told: no run or link has ended, and none has begun
pub record Quiet (s : Step) : Type 0 where
  pub frames : s.frames ≡ None
  pub event : s.event ≡ event.None

abbrev sends : Frames → Bool
sends None = false
sends (One f) = true
sends (Two f g) = true

abbrev tells : Event → Bool
tells event.None = false
tells event.Accepted = true
tells event.Abandoned = true
tells event.Ended = true

sent : (fs : Frames) → sends fs ≡ true → fs ≡ None → ⊥
sent fs s e = clash s (ap sends e)

told : (v : Event) → tells v ≡ true → v ≡ event.None → ⊥
told v s e = clash s (ap tells e)

-- a repeat sends or gives up
repeat-tells : (κ : Clock) (p : Peer) (r : Run) (fs : Frames) → (fs ≡ None → ⊥) → Quiet (retransmitting κ p r fs) → ⊥
unfolding abandoning sending
repeat-tells κ p r fs d = repeat-outcomes (λ (s : Step). Quiet s → ⊥) κ p r fs (λ h q. told _ refl q.event) (λ h q. d q.frames)

module _ (t : Terms) (c : Call) (p : Peer) (m : Message) where
  -- a switch of group sends or gives up
  switch-tells : Quiet (perform t c p m SwitchGroup) → ⊥
  unfolding perform sending abandoning
  switch-tells =
      switch-outcomes (λ (s : Step). Quiet s → ⊥) c.clock p t.groups c.fresh (λ i g h q. sent _ refl q.frames) (λ h q. told _ refl q.event)

  -- an act that sends nothing and tells nothing leaves both deadlines
  pub still-act : (a : Act) → Quiet (perform t c p m a) → Still p (perform t c p m a).peer
  unfolding perform dropping answering refusing sending forming abandoning accepting ending_link starting with_link heard_again answering_commit confirming_commit replying_token repeating_commit repeating_refusal resending_both confirming_again hearing_again hearing_last
  still-act Drop q = record { t0 = refl; t1 = refl }
  still-act RefuseGroup q = record { t0 = refl; t1 = refl }
  still-act AskToken q = record { t0 = refl; t1 = refl }
  still-act NoSlot q = record { t0 = refl; t1 = refl }
  still-act AnswerCommit q = absurd (sent _ refl q.frames)
  still-act ConfirmCommit q = absurd (sent _ refl q.frames)
  still-act ReplyToken q = absurd (repeat-tells c.clock p _ _ (sent _ refl) q)
  still-act SwitchGroup q = absurd (switch-tells q)
  still-act RepeatCommit q = absurd (repeat-tells c.clock p _ _ (sent _ refl) q)
  still-act RepeatRefusal q = absurd (repeat-tells c.clock p _ _ (sent _ refl) q)
  still-act ResendBoth q = absurd (sent _ refl q.frames)
  still-act ConfirmAgain q = absurd (repeat-tells c.clock p _ _ (sent _ refl) q)
  still-act GiveUp q = absurd (told _ refl q.event)
  still-act Accept q = absurd (told _ refl q.event)
  still-act HearAgain q = record { t0 = refl; t1 = refl }
  still-act HearLast q = record { t0 = refl; t1 = refl }
  still-act EndLink q = absurd (told _ refl q.event)
  still-act Begin q = absurd (sent _ refl q.frames)

-- ---- when they move

-- both deadlines stay, or a frame is sent, or the record's run or link ends; an event tells the end, unless it may go untold
pub data StepMoves (untold : Bool) (p : Peer) (s : Step) : Type 0 where
  still : Still p s.peer → StepMoves untold p s
  has_sent : (s.frames ≡ None → ⊥) → StepMoves untold p s
  has_ended : Ends p s.peer → (s.event ≡ event.None → untold ≡ true) → StepMoves untold p s

-- no act's end goes untold
abbrev pub ActMoves : Peer → Step → Type 0
ActMoves p s = StepMoves false p s

-- a run that is given up, or accepted, was in being and is no more
abandon-moves : (p : Peer) → (p.run.state ≡ 0 → ⊥) → ActMoves p (abandoning p)
unfolding abandoning with_run no_run no_peer
abandon-moves p d =
    has_ended (run_ends (rw (ne_eqb _ _ d) refl) (settle-outcomes (λ (q : Peer). has_run q ≡ false) (with_run p no_run) (λ x y. refl) (λ z. refl)))
    (λ e. absurd (told _ refl e))

accept-moves : (p : Peer) (counter time : ℕ) → (p.run.state ≡ 0 → ⊥) → ActMoves p (accepting p counter time)
unfolding accepting no_run
accept-moves p counter time d = has_ended (run_ends (rw (ne_eqb _ _ d) refl) refl) (λ e. absurd (told _ refl e))

repeat-moves : (κ : Clock) (p : Peer) (r : Run) (fs : Frames) → (p.run.state ≡ 0 → ⊥) → (fs ≡ None → ⊥) → ActMoves p (retransmitting κ p r fs)
unfolding sending
repeat-moves κ p r fs d f = repeat-outcomes (StepMoves false p) κ p r fs (λ h. abandon-moves p d) (λ h. has_sent f)

-- a link that ends was in being; where none was, a sound record stays as it is
module _ (own gs : List ℕ) (high : ℕ) (a : List ℕ) (p : Peer) (k : Kept own gs high a p) where
  no-run-t0 : p.run.state ≡ 0 → p.run.t0 ≡ 0
  unfolding no_run
  no-run-t0 e = let q = parts own gs high a p k in ap (λ (r : Run). r.t0) (run-unused gs high p.run q.fit_run.shape q.run e)

  no-link-t1 : p.link.finished ≡ 0 → p.link.t1 ≡ 0
  unfolding no_link
  no-link-t1 e = let q = parts own gs high a p k in ap (λ (l : Link). l.t1) (link-unused gs high p.link q.fit_link.shape q.link e)

  end-moves : ActMoves p (ending_link p)
  unfolding ending_link with_link no_link no_run no_peer
  end-moves = elim (ℕ_discrete p.link.finished 0) [
    | yes e ↦ still (record {
      t0 = settle-outcomes (λ (q : Peer). q.run.t0 ≡ p.run.t0) (with_link p no_link) (λ x y. sym (no-run-t0 x)) (λ d. refl);
      t1 = settle-outcomes (λ (q : Peer). q.link.t1 ≡ p.link.t1) (with_link p no_link) (λ x y. sym (no-link-t1 e)) (λ d. sym (no-link-t1 e));
    })
    | no d ↦
        has_ended (link_ends (rw (ne_eqb _ _ d) refl) (settle-outcomes (λ (q : Peer). has_link q ≡ false) (with_link p no_link) (λ x y. refl) (λ z. refl)))
        (λ e. absurd (told _ refl e))
  ]

module _ (t : Terms) (c : Call) (p : Peer) (m : Message) (high : ℕ) (k : Kept t.own t.groups high c.address p) where
  -- EVERY ACT leaves both deadlines, sends a frame, or its run or link ends
  pub act-moves : {a : Act} → Asked t c p m a → ActMoves p (perform t c p m a)
  unfolding perform dropping answering refusing sending forming starting with_link heard_again answering_commit confirming_commit replying_token repeating_commit repeating_refusal resending_both confirming_again hearing_again hearing_last
  act-moves (drop d) = still (record { t0 = refl; t1 = refl })
  act-moves (refuse_group r z l) = still (record { t0 = refl; t1 = refl })
  act-moves (ask_token r z l) = still (record { t0 = refl; t1 = refl })
  act-moves (no-slot r e) = still (record { t0 = refl; t1 = refl })
  act-moves (begin r e) = has_sent (sent _ refl)
  act-moves (answer_commit d r o e) = has_sent (sent _ refl)
  act-moves (confirm_commit s o g e) = has_sent (sent _ refl)
  act-moves (reply_token s z g) = repeat-moves c.clock p _ _ (λ q. omega arith) (sent _ refl)
  act-moves (switch_group s z g) =
      switch-outcomes (StepMoves false p) c.clock p t.groups c.fresh (λ i g h. has_sent (sent _ refl)) (λ h. abandon-moves p (λ q. omega arith))
  act-moves (repeat_commit s z) = repeat-moves c.clock p _ _ (λ q. omega arith) (sent _ refl)
  act-moves (repeat_refusal s z l) = repeat-moves c.clock p _ _ (λ q. omega arith) (sent _ refl)
  act-moves (resend_both s z l g) = has_sent (sent _ refl)
  act-moves (confirm_again s z) = repeat-moves c.clock p _ _ (λ q. omega arith) (sent _ refl)
  act-moves (give_up s z e) = abandon-moves p (λ q. omega arith)
  act-moves (accept s d z v) = accept-moves p _ c.clock.time (λ q. omega arith)
  act-moves (hear_again r n l i v) = still (record { t0 = refl; t1 = refl })
  act-moves (hear_last r n l i v) = still (record { t0 = refl; t1 = refl })
  act-moves end_link = end-moves t.own t.groups high c.address p k
