-- Each act by its name: what the leaf function left and said is what the book says.
use mathlib.Core.Path.{◌≡◌, refl, sym, ◌∙◌, subst}
use mathlib.Core.List.{List}
use Prim.Native.Nat.{ℕ, ◌-◌}
use lib.ListN.{length, take, drop, get_or}
use borrow.Rule.Slice.PartMut.{put_mid}
use Rattle.groups.specs.Groups.{stored, Storable, fresh_at, fresh_for}
use Rattle.record.specs.declared.Run.{Run}
use Rattle.record.specs.declared.Peer.{Peer}
use Rattle.record.specs.Layout.{decode_run, decode_peer, run_size, record_size, link_at}
use Rattle.rules.specs.Message.{Message}
use Rattle.rules.specs.declared.Act.{Act}
use Rattle.rules.specs.declared.Act.TheVariants as act
use Rattle.rules.specs.declared.Clock.{Clock}
use Rattle.rules.specs.declared.Frame.{Frame}
use Rattle.rules.specs.declared.Frames.{Frames}
use Rattle.rules.specs.declared.Frames.TheVariants.{None, One, Two}
use Rattle.rules.specs.declared.Said.{Said}
use Rattle.rules.specs.Parts.{with_own, with_run}
use Rattle.rules.specs.Book.{Terms, Call, commit_frame, token_request_frame, group_refusal_frame, confirm_frame, dropping, answering, refusing, abandoning, formed_run, forming, switching, accepting, ending_link, starting, answering_commit, confirming_commit, replying_token, repeating_commit, repeating_refusal, confirming_again, resending_both, hearing_last, hearing_again, perform}
use Rattle.rules.specs.Said.{Does, saying_frames, saying_refused}
use Rattle.acts.proofs.Laws.{run-changed}

module _ (W : ℕ) (t : Terms) (c : Call) (p : Peer) (m : Message) (a : Act) (x : Said) (left : List ℕ) where
  named : (b : Act) → a ≡ b → Does W x left (perform t c p m b) → Does W x left (perform t c p m a)
  named b e d = subst (λ (y : Act). Does W x left (perform t c p m y)) (sym e) d

  pub did-answer-commit : a ≡ act.AnswerCommit → Does W x left (answering_commit c.clock p c.address m (fresh_for t.groups c.fresh m.group)) → Does W x left (perform t c p m a)
  unfolding perform
  did-answer-commit e d = named act.AnswerCommit e d

  pub did-confirm-commit : a ≡ act.ConfirmCommit → Does W x left (confirming_commit c.clock p c.address m) → Does W x left (perform t c p m a)
  unfolding perform
  did-confirm-commit e d = named act.ConfirmCommit e d

  pub did-reply-token : a ≡ act.ReplyToken → Does W x left (replying_token c.clock p m) → Does W x left (perform t c p m a)
  unfolding perform
  did-reply-token e d = named act.ReplyToken e d

  pub did-switch-group : a ≡ act.SwitchGroup → Does W x left (switching c.clock p t.groups c.fresh) → Does W x left (perform t c p m a)
  unfolding perform
  did-switch-group e d = named act.SwitchGroup e d

  pub did-repeat-commit : a ≡ act.RepeatCommit → Does W x left (repeating_commit c.clock p) → Does W x left (perform t c p m a)
  unfolding perform
  did-repeat-commit e d = named act.RepeatCommit e d

  pub did-repeat-refusal : a ≡ act.RepeatRefusal → Does W x left (repeating_refusal c.clock p m.group) → Does W x left (perform t c p m a)
  unfolding perform
  did-repeat-refusal e d = named act.RepeatRefusal e d

  pub did-resend-both : a ≡ act.ResendBoth → Does W x left (resending_both c.clock p) → Does W x left (perform t c p m a)
  unfolding perform
  did-resend-both e d = named act.ResendBoth e d

  pub did-confirm-again : a ≡ act.ConfirmAgain → Does W x left (confirming_again c.clock p) → Does W x left (perform t c p m a)
  unfolding perform
  did-confirm-again e d = named act.ConfirmAgain e d

  pub did-give-up : a ≡ act.GiveUp → Does W x left (abandoning p) → Does W x left (perform t c p m a)
  unfolding perform
  did-give-up e d = named act.GiveUp e d

  pub did-accept : a ≡ act.Accept → Does W x left (accepting p m.counter c.clock.time) → Does W x left (perform t c p m a)
  unfolding perform
  did-accept e d = named act.Accept e d

  pub did-hear-again : a ≡ act.HearAgain → Does W x left (hearing_again p m.counter) → Does W x left (perform t c p m a)
  unfolding perform
  did-hear-again e d = named act.HearAgain e d

  pub did-hear-last : a ≡ act.HearLast → Does W x left (hearing_last p m.counter) → Does W x left (perform t c p m a)
  unfolding perform
  did-hear-last e d = named act.HearLast e d

  pub did-end-link : a ≡ act.EndLink → Does W x left (ending_link p) → Does W x left (perform t c p m a)
  unfolding perform
  did-end-link e d = named act.EndLink e d

  pub did-begin : a ≡ act.Begin → Does W x left (starting c.clock p c.address (get_or t.groups 0 0) (fresh_at c.fresh 0)) → Does W x left (perform t c p m a)
  unfolding perform
  did-begin e d = named act.Begin e d

-- the acts that leave the record as it is
module _ (W : ℕ) (t : Terms) (c : Call) (s : List ℕ) (m : Message) (a : Act) (x : Said) where
  pub did-drop : a ≡ act.Drop → x ≡ saying_frames None → Does W x s (perform t c (decode_peer W s) m a)
  unfolding perform dropping answering
  did-drop e q = named W t c (decode_peer W s) m a x s act.Drop e (record { leaves = refl; says = q })

  pub did-refuse-group : a ≡ act.RefuseGroup → x ≡ saying_frames (One (group_refusal_frame m.group)) → Does W x s (perform t c (decode_peer W s) m a)
  unfolding perform answering
  did-refuse-group e q = named W t c (decode_peer W s) m a x s act.RefuseGroup e (record { leaves = refl; says = q })

  pub did-ask-token : a ≡ act.AskToken → x ≡ saying_frames (One (token_request_frame m.group)) → Does W x s (perform t c (decode_peer W s) m a)
  unfolding perform answering
  did-ask-token e q = named W t c (decode_peer W s) m a x s act.AskToken e (record { leaves = refl; says = q })

  pub did-no-slot : a ≡ act.NoSlot → x ≡ saying_refused → Does W x s (perform t c (decode_peer W s) m a)
  unfolding perform refusing
  did-no-slot e q = named W t c (decode_peer W s) m a x s act.NoSlot e (record { leaves = refl; says = q })

-- ---- the leaves

-- "Form" takes of the run only its token: the own commit, stored before, may as well be given
own-given : (κ : Clock) (p : Peer) (address : List ℕ) (group : ℕ) (own theirs : List ℕ) (fs : Frames) (afresh : ℕ)
    → forming κ (with_run p (with_own p.run own)) address group own theirs fs afresh ≡ forming κ p address group own theirs fs afresh
unfolding forming formed_run with_run with_own
own-given κ p address group own theirs fs afresh = refl

-- the fresh commit is stored in the run's window, and then the pair is formed
pub answer-law : (W at : ℕ) → at ≡ link_at W → (x : Said) (s y left address : List ℕ) (m : Message) (own theirs gs : List ℕ) (fresh : List (List ℕ)) (κ : Clock) (f k : Frame)
    → length s ≡ record_size W → length y ≡ run_size W → decode_run W y ≡ with_own (decode_run W (take (at - 7) (drop 7 s))) own → own ≡ fresh_for gs fresh m.group → theirs ≡ m.commit → f ≡ commit_frame m.group → k ≡ confirm_frame 1
    → Does W x left (forming κ (decode_peer W (put_mid 7 (at - 7) s y)) address m.group (decode_peer W (put_mid 7 (at - 7) s y)).run.own theirs (Two f k) m.group)
    → Does W x left (answering_commit κ (decode_peer W s) address m (fresh_for gs fresh m.group))
unfolding answering_commit with_run with_own
answer-law W at a x s y left address m own theirs gs fresh κ f k h n e o c q r d =
    let p = decode_peer W s in
    let u : decode_peer W (put_mid 7 (at - 7) s y) ≡ with_run p (with_own p.run own) = run-changed W at a s h y (λ (v : Run). with_own v own) n e in
    subst (Does W x left)
    ((λ i. forming κ (u i) address m.group (u i).run.own (c i) (Two (q i) (r i)) m.group) ∙ own-given κ p address m.group own m.commit (Two (commit_frame m.group) (confirm_frame 1)) m.group
    ∙ (λ i. forming κ p address m.group (o i) m.commit (Two (commit_frame m.group) (confirm_frame 1)) m.group))
    d

module _ (W : ℕ) (x : Said) (left : List ℕ) (p : Peer) where
  pub confirm-law : (address : List ℕ) (m : Message) (theirs : List ℕ) (κ : Clock) (f : Frame) → theirs ≡ m.commit → f ≡ confirm_frame 1
      → Does W x left (forming κ p address m.group p.run.own theirs (One f) 0) → Does W x left (confirming_commit κ p address m)
  unfolding confirming_commit
  confirm-law address m theirs κ f h q d = subst (Does W x left) (λ i. forming κ p address m.group p.run.own (h i) (One (q i)) 0) d

  pub begin-law : (address own gs : List ℕ) (fresh : List (List ℕ)) (κ : Clock) → own ≡ fresh_at fresh 0 → Does W x left (starting κ p address (get_or gs 0 0) own)
      → Does W x left (starting κ p address (get_or gs 0 0) (fresh_at fresh 0))
  begin-law address own gs fresh κ e d = subst (λ (o : List ℕ). Does W x left (starting κ p address (get_or gs 0 0) o)) e d

-- the commit that was read is stored without loss, where it lies too
pub commit-storable : (W : ℕ) (heard : List ℕ) (m : Message) → stored heard ≡ m.commit → Storable W m.commit → Storable W (stored heard)
commit-storable W heard m e h = subst (Storable W) (sym e) h
