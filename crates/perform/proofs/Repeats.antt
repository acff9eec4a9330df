-- The acts on a run and on a link, from what the calls of the code answer: numbers that were read from the record, frames, and octets left.
use mathlib.Core.Path.{◌≡◌, refl, ap, ◌∙◌, subst}
use mathlib.Core.List.{List}
use Prim.Native.Nat.{ℕ, ◌+◌, ◌-◌, ◌<◌, ◌^◌}
use native.Mathlib.Omega.{arith}
use lib.Dec.{lit<}
use lib.ListN.{length, take, drop}
use borrow.Rule.Slice.PartMut.{put_mid}
use Rattle.octets.specs.Octets.{put, oct}
use Rattle.octets.proofs.Laws.{length-oct, num-oct}
use Rattle.record.specs.Codec.{cut, total}
use Rattle.record.specs.Layout.{decode_run, decode_link, decode_peer, link_of, link_widths, run_size, link_size, record_size, link_at}
use Rattle.record.specs.declared.Run.{Run}
use Rattle.record.specs.declared.Link.{Link}
use Rattle.record.specs.declared.Peer.{Peer}
use Rattle.record.proofs.Windows.{laid, laid-put}
use Rattle.rules.specs.declared.Clock.{Clock}
use Rattle.rules.specs.declared.Frame.{Frame}
use Rattle.rules.specs.declared.Frames.{Frames}
use Rattle.rules.specs.declared.Frames.TheVariants.{None, One, Two}
use Rattle.rules.specs.declared.Said.{Said}
use Rattle.rules.specs.Parts.{with_sync, with_sc, with_token, heard_again, with_run, with_link}
use Rattle.rules.specs.Message.{Message}
use Rattle.rules.specs.Book.{commit_frame, group_refusal_frame, confirm_frame, sending, answering, abandoning, retransmitting, repeating_commit, repeating_refusal, confirming_again, replying_token, resending_both, hearing_last, hearing_again}
use Rattle.rules.specs.Said.{saying_frames, Does}
use Rattle.acts.proofs.Laws.{run-changed, link-changed}

-- ---- "Repeat", and what is sent with it

module _ (W : ℕ) (κ : Clock) (p : Peer) (x : Said) (left : List ℕ) where
  pub repeat-commit-law : (g sc : ℕ) (f : Frame) → g ≡ p.run.group → sc ≡ p.run.sc → f ≡ commit_frame g →
      Does W x left (retransmitting κ p (with_sc p.run sc) (One f)) → Does W x left (repeating_commit κ p)
  unfolding repeating_commit with_sc
  repeat-commit-law g sc f a b e h =
      let q : f ≡ commit_frame p.run.group = e ∙ ap commit_frame a in
      subst (Does W x left) (λ i. retransmitting κ p (with_sc p.run (b i)) (One (q i))) h

  pub repeat-refusal-law : (g sc : ℕ) (f : Frame) → sc ≡ p.run.sc → f ≡ group_refusal_frame g →
      Does W x left (retransmitting κ p (with_sc p.run sc) (One f)) → Does W x left (repeating_refusal κ p g)
  unfolding repeating_refusal with_sc
  repeat-refusal-law g sc f b e h = subst (Does W x left) (λ i. retransmitting κ p (with_sc p.run (b i)) (One (e i))) h

  pub confirm-again-law : (sc : ℕ) (f : Frame) → sc ≡ p.run.sc → f ≡ confirm_frame (sc + 1) →
      Does W x left (retransmitting κ p (with_sc p.run (sc + 1)) (One f)) → Does W x left (confirming_again κ p)
  unfolding confirming_again
  confirm-again-law sc f b e h =
      let q : f ≡ confirm_frame (p.run.sc + 1) = e ∙ ap (λ (n : ℕ). confirm_frame (n + 1)) b in
      subst (Does W x left) (λ i. retransmitting κ p (with_sc p.run (b i + 1)) (One (q i))) h

  pub resend-law : (g sync sc : ℕ) (f k : Frame) → g ≡ p.run.group → sync ≡ p.run.sync → sc ≡ p.run.sc → f ≡ commit_frame g → k ≡ confirm_frame (sc + 1) →
      Does W x left (sending κ p (with_sync (with_sc p.run (sc + 1)) (sync + 1)) (Two f k) 0) → Does W x left (resending_both κ p)
  unfolding resending_both
  resend-law g sync sc f k a b d e j h =
      let q : f ≡ commit_frame p.run.group = e ∙ ap commit_frame a in
      let r : k ≡ confirm_frame (p.run.sc + 1) = j ∙ ap (λ (n : ℕ). confirm_frame (n + 1)) d in
      subst (Does W x left) (λ i. sending κ p (with_sync (with_sc p.run (d i + 1)) (b i + 1)) (Two (q i) (r i)) 0) h

-- a token is stored in the run's window, and then the Commit is repeated
stored-repeats : (κ : Clock) (p : Peer) (m : Message) → repeating_commit κ (with_run p (with_token p.run m.toklen m.token)) ≡ replying_token κ p m
unfolding repeating_commit replying_token retransmitting abandoning sending with_run with_token
stored-repeats κ p m = refl

pub reply-token-law : (W at : ℕ) → at ≡ link_at W → (x : Said) (s y left : List ℕ) (m : Message) (token : List ℕ) (κ : Clock) → token ≡ m.token →
    decode_run W y ≡ with_token (decode_run W (take (at - 7) (drop 7 s))) m.toklen token → length s ≡ record_size W → length y ≡ run_size W →
    Does W x left (repeating_commit κ (decode_peer W (put_mid 7 (at - 7) s y))) → Does W x left (replying_token κ (decode_peer W s) m)
reply-token-law W at a x s y left m token κ o e h k d =
    let p = decode_peer W s in
    let q : decode_peer W (put_mid 7 (at - 7) s y) ≡ with_run p (with_token p.run m.toklen m.token) =
    run-changed W at a s h y (λ (r : Run). with_token r m.toklen token) k e ∙ ap (λ (v : List ℕ). with_run p (with_token p.run m.toklen v)) o in
    subst (Does W x left) (ap (λ (u : Peer). repeating_commit κ u) q ∙ stored-repeats κ p m) d

-- ---- the link with another Rc and Sync

pub hear-link-law : (W : ℕ) (s t u : List ℕ) (rc sync : ℕ) → length s ≡ link_size W → sync < 256 ^ 1 → rc < 256 ^ 2 → t ≡ put s 2 (oct 1 sync) → u ≡ put t 6 (oct 2 rc) →
    decode_link W u ≡ heard_again (decode_link W s) rc sync
unfolding decode_link link_of link_widths cut total heard_again
hear-link-law W s t u rc sync h a b p q =
    let L = laid (link_widths W) s (link_size W) h in
    let M = laid-put t 2 2 (oct 1 sync) L (lit< tt) (length-oct 1 sync) refl (omega (arith, length-oct 1 sync)) p in
    let N = laid-put u 5 6 (oct 2 rc) M (lit< tt) (length-oct 2 rc) refl (omega (arith, length-oct 2 rc)) q in
    let l = decode_link W s in
    let m = num-oct 1 sync a in
    let n = num-oct 2 rc b in
    ap link_of N.cuts
    ∙ (λ i. record { finished = l.finished; superseded = l.superseded; sync = m i; spare = l.spare; group = l.group; rc = n i; t1 = l.t1; own = l.own; peer = l.peer })

pub hear-law : (W at end : ℕ) → at ≡ link_at W → end ≡ record_size W → (s y : List ℕ) (rc sync : ℕ) (fs : Frames) (x : Said) → length s ≡ record_size W → length y ≡ link_size W →
    decode_link W y ≡ heard_again (decode_link W (take (end - at) (drop at s))) rc sync → x ≡ saying_frames fs →
    Does W x (put_mid at (end - at) s y) (answering (with_link (decode_peer W s) (heard_again (decode_peer W s).link rc sync)) fs)
unfolding answering
hear-law W at end p q s y rc sync fs x h n e d = record { leaves = link-changed W at p s h end q y (λ (l : Link). heard_again l rc sync) n e; says = d }

-- the Sync is what a call read, the frame what a call made
module _ (W : ℕ) (p : Peer) (x : Said) (left : List ℕ) where
  pub hear-last-law : (rc sync : ℕ) → sync ≡ p.link.sync → Does W x left (answering (with_link p (heard_again p.link rc sync)) None) → Does W x left (hearing_last p rc)
  unfolding hearing_last
  hear-last-law rc sync e h = subst (λ (y : ℕ). Does W x left (answering (with_link p (heard_again p.link rc y)) None)) e h

  pub hear-again-law : (rc sync : ℕ) (f : Frame) → sync ≡ p.link.sync → f ≡ confirm_frame 65535
      → Does W x left (answering (with_link p (heard_again p.link rc (sync + 1))) (One f)) → Does W x left (hearing_again p rc)
  unfolding hearing_again
  hear-again-law rc sync f e q h = subst (Does W x left) (λ i. answering (with_link p (heard_again p.link rc (e i + 1))) (One (q i))) h
