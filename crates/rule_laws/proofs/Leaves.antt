-- WHAT AN ACT MAY CHANGE: a row for each kind of outcome, with what it sets, the deadlines among it, and what it leaves as it was. Every step is one of the rows.
use mathlib.Core.Path.{◌≡◌, refl, sym, ap, ◌∙◌, subst}
use mathlib.Core.Bool.{Bool, true, false}
use mathlib.Core.List.{List}
use mathlib.Core.Logic.{◌⊎◌, inl, inr}
use Prim.Native.Nat.{ℕ, ◌+◌, ◌≤◌}
use native.Mathlib.Omega.{arith}
use lib.ListN.{get_or}
use Rattle.std.specs.Prelude.{if◌then◌else◌}
use Rattle.octets.proofs.Scan.{clash}
use Rattle.groups.specs.Groups.{fresh_at}
use Rattle.record.specs.declared.Run.{Run}
use Rattle.record.specs.declared.Peer.{Peer}
use Rattle.record.specs.Layout.{no_run, no_link, no_peer}
use Rattle.soundness.proofs.Laws.{run-is-confirmed}
use Rattle.rules.specs.Message.{Message}
use Rattle.rules.specs.declared.Act.{Act}
use Rattle.rules.specs.declared.Act.TheVariants as act
use Rattle.rules.specs.declared.Event.TheVariants as event
use Rattle.rules.specs.declared.Frames.{Frames}
use Rattle.rules.specs.declared.Frames.TheVariants.{None}
use Rattle.rules.specs.Parts.{with_sync, with_sc, with_run, with_link}
use Rattle.rules.specs.declared.Clock.{Clock}
use Rattle.rules.specs.Book.{◌is◌, holds, Terms, Call, Step, silence, t0_due, set_t0, sending, answering, settled, abandoning, ending_link, retransmitting, dropping, supersede, accepting, answering_commit, confirming_commit, replying_token, repeating_commit, repeating_refusal, resending_both, confirming_again, hearing_again, hearing_last, perform, start_act, clock_act, commit_act, confirm_act, on_frame, on_clock, on_start}
use Rattle.rules.specs.Asked.{Asked, refuse_group, ask_token, no-slot, begin, answer_commit, confirm_commit, reply_token, switch_group, repeat_commit, repeat_refusal, resend_both, confirm_again, give_up, accept, hear_again, hear_last, end_link, drop}
use Rattle.rules.proofs.Ladders.{commit-asked, confirm-asked, frame-asked, clock-asked}
use Rattle.rule_laws.proofs.Outcomes.{whether, switch-outcomes, repeat-outcomes, settle-outcomes}
use Rattle.rule_laws.proofs.Keeps.{Kept, parts}
use Rattle.rule_laws.proofs.Rows.{Started, Accepted, Abandoned, Ended, Again, Did, dropped, answered, refused, replied, switched, repeated, formed, started, accepted as accepted_row, abandoned, ended as ended_row, again as again_row, supersede-sync, drop-row, answer-row, refuse-row, token-row, switch-row, count-row, form-row, start-row, accept-row, abandon-row, end_row, hear-row}

-- ---- a Repeat, counted or given up

module _ (κ : Clock) (p : Peer) where
  repeat-row : (sc : ℕ) (fs : Frames) → Did κ p (retransmitting κ p (with_sc p.run sc) fs)
  repeat-row sc fs = repeat-outcomes (Did κ p) κ p (with_sc p.run sc) fs (λ h. abandon-row κ p) (λ h. count-row κ p sc fs h)

  same_row : (fs : Frames) → Did κ p (retransmitting κ p p.run fs)
  unfolding with_sc
  same_row fs = repeat-row p.run.sc fs

  reply-row : (m : Message) → Did κ p (replying_token κ p m)
  unfolding replying_token
  reply-row m = repeat-outcomes (Did κ p) κ p _ _ (λ h. abandon-row κ p) (λ h. token-row κ p m h)

-- ---- every step is one of the rows

module _ (t : Terms) (c : Call) (p : Peer) (m : Message) where
  pub act-did : {a : Act} → Asked t c p m a → Did c.clock p (perform t c p m a)
  unfolding perform answering_commit confirming_commit repeating_commit repeating_refusal resending_both confirming_again hearing_again hearing_last
  act-did (drop d) = drop-row c.clock p
  act-did (refuse_group r z l) = answer-row c.clock p _
  act-did (ask_token r z l) = answer-row c.clock p _
  act-did (no-slot r e) = refuse-row c.clock p
  act-did (begin r e) = started _ _ _ (start-row c.clock p _ _ _)
  act-did (answer_commit d r o e) = form-row c.clock p _ _ _ _ _ _
  act-did (confirm_commit s o g e) = form-row c.clock p _ _ _ _ _ _
  act-did (reply_token s z g) = reply-row c.clock p m
  act-did (switch_group s z g) =
      switch-outcomes (Did c.clock p) c.clock p t.groups c.fresh (λ i g h. switch-row c.clock p _ g _ _)
      (λ h. abandon-row c.clock p)
  act-did (repeat_commit s z) = same_row c.clock p _
  act-did (repeat_refusal s z l) = same_row c.clock p _
  act-did (resend_both s z l g) = count-row c.clock p _ _ l
  act-did (confirm_again s z) = repeat-row c.clock p _ _
  act-did (give_up s z e) = abandon-row c.clock p
  act-did (accept s d z v) = accept-row c.clock p _
  act-did (hear_again r n l i v) = hear-row c.clock p m.counter (p.link.sync + 1) _ l (omega arith)
  act-did (hear_last r n l i v) = hear-row c.clock p m.counter p.link.sync None l (omega arith)
  act-did end_link = end_row c.clock p

  pub commit-did : m.sequence ≡ 1 → Did c.clock p (perform t c p m (commit_act t c p m))
  commit-did f = act-did (commit-asked t c p m f)

  pub confirm-did : (m.sequence ≡ 1 → ⊥) → Did c.clock p (perform t c p m (confirm_act c p m))
  confirm-did d = act-did (confirm-asked t c p m d)

  pub frame-did : Did c.clock p (on_frame t c p m)
  unfolding on_frame
  frame-did = act-did (frame-asked t c p m)

module _ (t : Terms) (c : Call) (p : Peer) where
  pub expire-did : Did c.clock p (on_clock t c p)
  unfolding on_clock clock_act perform repeating_commit confirming_again
  expire-did =
      let P : Act → Type 0 = λ (a : Act). Did c.clock p (perform t c p silence a) in
      whether P (holds (t0_due p c.clock.time)) _ _
      (λ x. whether P (p.run.state is 2) _ _ (λ e. repeat-row c.clock p _ _) (λ d. same_row c.clock p _))
      (λ x. end_row c.clock p)

  begins : t.full ≡ false → start_act t ≡ act.Begin
  unfolding start_act holds
  begins f = go t.full f
    where
      go : (b : Bool) → b ≡ false → (if b then act.NoSlot else act.Begin) ≡ act.Begin
      go true e = absurd (clash refl e)
      go false e = refl

  -- a start, a slot being there
  pub start-did : t.full ≡ false → Started c.clock p c.address (get_or t.groups 0 0) (fresh_at c.fresh 0) (on_start t c p)
  unfolding on_start perform
  start-did f =
      subst (λ (a : Act). Started c.clock p c.address (get_or t.groups 0 0) (fresh_at c.fresh 0) (perform t c p silence a)) (sym (begins f))
      (start-row c.clock p c.address (get_or t.groups 0 0) (fresh_at c.fresh 0))

-- ---- Sync

settled-run : (n : ℕ) (p : Peer) → p.run.sync ≤ n → (settled p).run.sync ≤ n
unfolding no_peer no_run
settled-run n p h = settle-outcomes (λ (q : Peer). q.run.sync ≤ n) p (λ x y. omega arith) (λ d. h)

settled-link : (n : ℕ) (p : Peer) → p.link.sync ≤ n → (settled p).link.sync ≤ n
unfolding no_peer no_link
settled-link n p h = settle-outcomes (λ (q : Peer). q.link.sync ≤ n) p (λ x y. omega arith) (λ d. h)

module _ (κ : Clock) (p : Peer) (s : Step) where
  -- Sync never passes the limit by more than one: 6 at the factory's 5
  pub sync-bound : Did κ p s → p.run.sync ≤ κ.limit + 1 → s.peer.run.sync ≤ κ.limit + 1
  unfolding with_run with_link no_run
  sync-bound (dropped r) h = rw r.peer h
  sync-bound (answered r) h = rw r.peer h
  sync-bound (refused r) h = rw r.peer h
  sync-bound (replied r) h = omega (arith, r.counted.sync, r.counted.low)
  sync-bound (switched r) h = omega (arith, r.sync)
  sync-bound (repeated r) h = omega (arith, r.counted.sync, r.counted.low)
  sync-bound (formed r) h = omega (arith, r.sync)
  sync-bound (started a g f r) h = omega (arith, r.sync)
  sync-bound (accepted_row r) h = rw r.run (omega arith)
  sync-bound (abandoned r) h = rw r.peer (settled-run (κ.limit + 1) (with_run p no_run) (omega arith))
  sync-bound (ended_row r) h = rw r.peer (settled-run (κ.limit + 1) (with_link p no_link) h)
  sync-bound (again_row r) h = rw r.around.run h

  pub link-sync-bound : Did κ p s → p.run.sync ≤ κ.limit + 1 → p.link.sync ≤ κ.limit + 1 → s.peer.link.sync ≤ κ.limit + 1
  unfolding with_run with_link no_link
  link-sync-bound (dropped r) g h = rw r.peer h
  link-sync-bound (answered r) g h = rw r.peer h
  link-sync-bound (refused r) g h = rw r.peer h
  link-sync-bound (replied r) g h = rw r.around.link h
  link-sync-bound (switched r) g h = rw r.around.link h
  link-sync-bound (repeated r) g h = rw r.around.link h
  link-sync-bound (formed r) g h = rw (r.link, supersede-sync p.link) h
  link-sync-bound (started a k f r) g h = rw r.link h
  link-sync-bound (accepted_row r) g h = omega (arith, r.sync)
  link-sync-bound (abandoned r) g h = rw r.peer (settled-link (κ.limit + 1) (with_run p no_run) h)
  link-sync-bound (ended_row r) g h = rw r.peer (settled-link (κ.limit + 1) (with_link p no_link) (omega arith))
  link-sync-bound (again_row r) g h = omega (arith, r.sync, r.low)

-- in Confirmed Sc is Sync + 1, before a step and after it: the form says so, and every step keeps the form
pub confirmed-sc : (own gs : List ℕ) (high : ℕ) (a : List ℕ) (p : Peer) → Kept own gs high a p → p.run.state ≡ 2 → p.run.sc ≡ p.run.sync + 1
confirmed-sc own gs high a p k e = (run-is-confirmed gs high p.run e (parts own gs high a p k).run).sc

-- ---- Confirmed: the stored peer commit stays while the run lasts

-- the pair that a run stands for
pub record SamePair (r x : Run) : Type 0 where
  pub state : x.state ≡ r.state
  pub group : x.group ≡ r.group
  pub own : x.own ≡ r.own
  pub peer : x.peer ≡ r.peer

-- the pair stays, or the run is over
pub record Stands (p : Peer) (s : Step) : Type 0 where
  pub stands : SamePair p.run s.peer.run ⊎ ((s.event ≡ event.Abandoned) ⊎ (s.event ≡ event.Accepted))

module _ (p : Peer) where
  drop-stands : Stands p (dropping p)
  unfolding dropping answering
  drop-stands = record { stands = inl (record { state = refl; group = refl; own = refl; peer = refl }) }

  abandon-stands : Stands p (abandoning p)
  unfolding abandoning
  abandon-stands = record { stands = inr (inl refl) }

  count-stands : (κ : Clock) (sc : ℕ) (fs : Frames) → Stands p (sending κ p (with_sync (with_sc p.run sc) (p.run.sync + 1)) fs 0)
  unfolding with_sync with_sc sending with_run set_t0
  count-stands κ sc fs = record { stands = inl (record { state = refl; group = refl; own = refl; peer = refl }) }

  accept-stands : (counter time : ℕ) → Stands p (accepting p counter time)
  unfolding accepting
  accept-stands counter time = record { stands = inr (inr refl) }

  end-stands : p.run.state ≡ 2 → Stands p (ending_link p)
  unfolding ending_link with_link
  end-stands h =
      record {
        stands = inl (settle-outcomes (λ (q : Peer). SamePair p.run q.run) (with_link p no_link) (λ x y. absurd (omega (arith, h, x)))
            (λ d. record { state = refl; group = refl; own = refl; peer = refl }));
      }

module _ (t : Terms) (c : Call) (p : Peer) (m : Message) (h : p.run.state ≡ 2) where
  -- "the stored peer commit stays", whatever act comes
  pub act-stands : {a : Act} → Asked t c p m a → Stands p (perform t c p m a)
  unfolding perform resending_both confirming_again
  act-stands (drop d) = drop-stands p
  act-stands (refuse_group r z l) = absurd (r.not_confirmed h)
  act-stands (ask_token r z l) = absurd (r.not_confirmed h)
  act-stands (no-slot r e) = absurd (r.not_confirmed h)
  act-stands (begin r e) = absurd (r.not_confirmed h)
  act-stands (answer_commit d r o e) = absurd (d h)
  act-stands (confirm_commit s o g e) = absurd (omega (arith, h, s))
  act-stands (reply_token s z g) = absurd (omega (arith, h, s))
  act-stands (switch_group s z g) = absurd (omega (arith, h, s))
  act-stands (repeat_commit s z) = absurd (omega (arith, h, s))
  act-stands (repeat_refusal s z l) = absurd (omega (arith, h, s))
  act-stands (resend_both s z l g) = count-stands p c.clock _ _
  act-stands (confirm_again s z) = repeat-outcomes (Stands p) c.clock p _ _ (λ e. abandon-stands p) (λ e. count-stands p c.clock _ _)
  act-stands (give_up s z e) = abandon-stands p
  act-stands (accept s d z v) = accept-stands p _ c.clock.time
  act-stands (hear_again r n l i v) = absurd (r.not_confirmed h)
  act-stands (hear_last r n l i v) = absurd (r.not_confirmed h)
  act-stands end_link = end-stands p h

  pub commit-stands : m.sequence ≡ 1 → Stands p (perform t c p m (commit_act t c p m))
  commit-stands f = act-stands (commit-asked t c p m f)

  pub confirm-stands : (m.sequence ≡ 1 → ⊥) → Stands p (perform t c p m (confirm_act c p m))
  confirm-stands d = act-stands (confirm-asked t c p m d)

pub expire-stands : (t : Terms) (c : Call) (p : Peer) → p.run.state ≡ 2 → Stands p (on_clock t c p)
unfolding on_clock
expire-stands t c p h = act-stands t c p silence h (clock-asked t c p (inr (inr h)))

-- ---- the link is untouched but for its mark, unless the step accepts, ends or hears again

pub record LinkStays (p : Peer) (s : Step) : Type 0 where
  pub stays : (s.peer.link ≡ p.link) ⊎ (s.peer.link ≡ supersede p.link)

pub data LinkDid (κ : Clock) (p : Peer) (s : Step) : Type 0 where
  stays : LinkStays p s → LinkDid κ p s
  accepted : Accepted κ.time p s → LinkDid κ p s
  ended : Ended p s → LinkDid κ p s
  freed : Abandoned p s → s.peer ≡ no_peer → LinkDid κ p s
  again : Again κ p s → LinkDid κ p s

-- a run that is given up leaves the link, or frees a record that has none
abandoned-link : (p : Peer) → (settled (with_run p no_run) ≡ no_peer) ⊎ ((settled (with_run p no_run)).link ≡ p.link)
unfolding with_run
abandoned-link p = settle-outcomes (λ (q : Peer). (q ≡ no_peer) ⊎ (q.link ≡ p.link)) (with_run p no_run) (λ x y. inl refl) (λ d. inr refl)

module _ (κ : Clock) (p : Peer) (s : Step) where
  pub link-did : Did κ p s → LinkDid κ p s
  link-did (dropped r) = stays (record { stays = inl (ap (λ (q : Peer). q.link) r.peer) })
  link-did (answered r) = stays (record { stays = inl (ap (λ (q : Peer). q.link) r.peer) })
  link-did (refused r) = stays (record { stays = inl (ap (λ (q : Peer). q.link) r.peer) })
  link-did (replied r) = stays (record { stays = inl r.around.link })
  link-did (switched r) = stays (record { stays = inl r.around.link })
  link-did (repeated r) = stays (record { stays = inl r.around.link })
  link-did (formed r) = stays (record { stays = inr r.link })
  link-did (started a g f r) = stays (record { stays = inl r.link })
  link-did (accepted_row r) = accepted r
  link-did (abandoned r) = elim (abandoned-link p) [
    | inl e ↦ freed r (r.peer ∙ e)
    | inr e ↦ stays (record { stays = inl (ap (λ (q : Peer). q.link) r.peer ∙ e) })
  ]
  link-did (ended_row r) = ended r
  link-did (again_row r) = again r
