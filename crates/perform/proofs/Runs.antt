-- What a change of the run leaves in the record's octets: a start, a stored token, a change of group.
use mathlib.Core.Path.{◌≡◌, refl, sym, ap, ◌∙◌, subst}
use mathlib.Core.Bool.{false}
use mathlib.Core.List.{List}
use Prim.Native.Nat.{ℕ, ◌-◌, ◌^◌, ◌≤◌, ◌<◌}
use native.Mathlib.Omega.{arith}
use lib.Dec.{lit<}
use lib.ListN.{length, take, drop, replicate, length-replicate}
use borrow.Rule.Slice.PartMut.{put_mid}
use Rattle.octets.specs.Octets.{part, put, num, oct}
use Rattle.octets.proofs.Laws.{length-oct, length-put, num-oct}
use Rattle.groups.specs.Groups.{width, stored}
use Rattle.record.specs.Codec.{cut, total}
use Rattle.record.specs.Layout.{run_widths, run_of, decode_run, decode_peer, run_size, run_token_at, record_size, link_at, no_run}
use Rattle.record.specs.declared.Run.{Run}
use Rattle.record.proofs.Windows.{Laid, laid, laid-put, no-run-left, run-window, used-left, address-left}
use Rattle.rules.specs.declared.Clock.{Clock}
use Rattle.rules.specs.declared.Frame.{Frame}
use Rattle.rules.specs.declared.Frames.TheVariants.{One}
use Rattle.rules.specs.declared.Event.TheVariants as event
use Rattle.rules.specs.declared.Said.{Said}
use Rattle.rules.specs.Parts.{with_token, switched, with_run}
use Rattle.rules.specs.Book.{deadline, delay, set_t0, sending, started_run, starting, commit_frame}
use Rattle.rules.specs.Said.{Does}
use Rattle.acts.proofs.Laws.{run_long, run-kept, run-changed, sent-law}

-- ---- the run's octets

module _ (W : ℕ) where
  -- "Start"
  pub start-run-law :
      (s z a b c t : List ℕ) (group at : ℕ) (κ : Clock) (own : List ℕ) → at ≡ deadline κ.time (delay κ 0) → z ≡ replicate (length s) 0 → a ≡ put z 0 (oct 1 1) →
      b ≡ put a 5 (oct 2 group) → c ≡ put b 9 (oct 4 at) → t ≡ put c 13 own → length s ≡ run_size W → W ≤ width → length own ≡ W → group < 256 ^ 2 → at < 256 ^ 4 →
      decode_run W t ≡ set_t0 κ (started_run group (stored own))
  unfolding decode_run run_of run_widths cut total set_t0 started_run no_run
  start-run-law s z a b c t group at κ own e q0 q1 q2 q3 q4 h w l g k =
      let l0 : Laid (run_widths W) z (cut 0 (run_widths W) z) (run_size W) = laid (run_widths W) z (run_size W) (ap length q0 ∙ length-replicate (length s) 0 ∙ h) in
      let l1 = laid-put a 0 0 (oct 1 1) l0 (lit< tt) (length-oct 1 1) refl (omega (arith, length-oct 1 1)) q1 in
      let l2 = laid-put b 4 5 (oct 2 group) l1 (lit< tt) (length-oct 2 group) refl (omega (arith, length-oct 2 group)) q2 in
      let l3 = laid-put c 6 9 (oct 4 at) l2 (lit< tt) (length-oct 4 at) refl (omega (arith, length-oct 4 at)) q3 in
      let l4 = laid-put t 7 13 own l3 (lit< tt) l refl (omega arith) q4 in
      let n : decode_run W z ≡ no_run = ap (decode_run W) q0 ∙ no-run-left W (length s) w h in
      let v0 = num-oct 1 1 (lit< tt) in
      let v4 = num-oct 2 group g in
      let v6 = num-oct 4 at k ∙ e in
      ap run_of l4.cuts ∙ (λ i. record { state = v0 i; sync = (n i).sync; rejected = (n i).rejected; sc = (n i).sc; group = v4 i; toklen = (n i).toklen; t0 = v6 i; own = stored own; peer = (n i).peer; token = (n i).token })

  pub sync-within : (s : List ℕ) (x n : ℕ) → x ≡ num (part s 1 1) → (decode_run W s).sync ≤ n → x ≤ n
  unfolding decode_run run_of run_widths cut
  sync-within s x n e h = subst (λ (y : ℕ). y ≤ n) (sym e) h

  -- "store the token"
  pub store-token-law :
      (s a t : List ℕ) (toklen at : ℕ) (token : List ℕ) → at ≡ run_token_at W → a ≡ put s 7 (oct 2 toklen) → t ≡ put a at token → length s ≡ run_size W → length token ≡ 256 →
      toklen < 256 ^ 2 → decode_run W t ≡ with_token (decode_run W s) toklen token
  unfolding decode_run run_of run_widths cut total with_token
  store-token-law s a t toklen at token p q1 q2 h l g =
      let l0 : Laid (run_widths W) s (cut 0 (run_widths W) s) (run_size W) = laid (run_widths W) s (run_size W) h in
      let l1 = laid-put a 5 7 (oct 2 toklen) l0 (lit< tt) (length-oct 2 toklen) refl (omega (arith, length-oct 2 toklen)) q1 in
      let l2 = laid-put t 9 at token l1 (lit< tt) l (omega arith) (omega arith) q2 in
      let r : Run = decode_run W s in
      let v5 = num-oct 2 toklen g in
      ap run_of l2.cuts ∙ (λ i. record { state = r.state; sync = r.sync; rejected = r.rejected; sc = r.sc; group = r.group; toklen = v5 i; t0 = r.t0; own = r.own; peer = r.peer; token = token })

  -- a change of group
  pub switch-run-law :
      (s a b c t : List ℕ) (sync rejected group at : ℕ) (κ : Clock) (own : List ℕ) → sync ≡ num (part s 1 1) → at ≡ deadline κ.time (delay κ sync) →
      a ≡ put s 2 (oct 1 rejected) → b ≡ put a 5 (oct 2 group) → c ≡ put b 9 (oct 4 at) → t ≡ put c 13 own →
      length s ≡ run_size W → length own ≡ W → rejected < 256 → group < 256 ^ 2 → at < 256 ^ 4 →
      decode_run W t ≡ set_t0 κ (switched (decode_run W s) rejected group (stored own))
  unfolding decode_run run_of run_widths cut total set_t0 switched
  switch-run-law s a b c t sync rejected group at κ own n e q1 q2 q3 q4 h l j g k =
      let l0 : Laid (run_widths W) s (cut 0 (run_widths W) s) (run_size W) = laid (run_widths W) s (run_size W) h in
      let l1 = laid-put a 2 2 (oct 1 rejected) l0 (lit< tt) (length-oct 1 rejected) refl (omega (arith, length-oct 1 rejected)) q1 in
      let l2 = laid-put b 4 5 (oct 2 group) l1 (lit< tt) (length-oct 2 group) refl (omega (arith, length-oct 2 group)) q2 in
      let l3 = laid-put c 6 9 (oct 4 at) l2 (lit< tt) (length-oct 4 at) refl (omega (arith, length-oct 4 at)) q3 in
      let l4 = laid-put t 7 13 own l3 (lit< tt) l refl (omega arith) q4 in
      let r : Run = decode_run W s in
      let v2 = num-oct 1 rejected j in
      let v4 = num-oct 2 group g in
      let v6 = num-oct 4 at k ∙ e ∙ ap (λ (y : ℕ). deadline κ.time (delay κ y)) n in
      ap run_of l4.cuts
      ∙ (λ i. record { state = r.state; sync = r.sync; rejected = v2 i; sc = r.sc; group = v4 i; toklen = r.toklen; t0 = v6 i; own = stored own; peer = r.peer; token = r.token })

-- ---- the run's window in the record, from 7 to `at`

module _ (W at : ℕ) (p : at ≡ link_at W) (s : List ℕ) (h : length s ≡ record_size W) where
  -- the run that is lent has the record's Sync
  pub window-within : (n : ℕ) → (decode_peer W s).run.sync ≤ n → (decode_run W (take (at - 7) (drop 7 s))).sync ≤ n
  window-within n k = rw (run-window W s h (at - 7) (run_long W at p)) k

  -- "Start": the run's window, then the record's own two fields
  pub start-law :
      (x : Said) (y a t address : List ℕ) (group : ℕ) (own : List ℕ) (κ : Clock) (f : Frame) →
      decode_run W y ≡ set_t0 κ (started_run group own) → a ≡ put (put_mid 7 (at - 7) s y) 0 (oct 1 1) → t ≡ put a 1 address →
      f ≡ commit_frame group → x ≡ record { event = event.None; frames = One f; afresh = group; refused = false } →
      length y ≡ run_size W → length address ≡ 6 →
      Does W x t (starting κ (decode_peer W s) address group own)
  unfolding starting with_run
  start-law x y a t address group own κ f e q1 q2 g z k n =
      let m = put_mid 7 (at - 7) s y in
      let lm : length m ≡ record_size W = run-kept W at s y p h k in
      let la : length a ≡ record_size W = ap length q1 ∙ length-put m 0 (oct 1 1) (omega (arith, length-oct 1 1)) ∙ lm in
      let d0 = run-changed W at p s h y (λ (r : Run). set_t0 κ (started_run group own)) k e in
      let d1 = ap (decode_peer W) q1 ∙ used-left W m lm 1 (lit< tt) in
      let d2 = ap (decode_peer W) q2 ∙ address-left W a la address n in
      record {
        leaves = d2 ∙ (λ i. record { used = (d1 i).used; address = address; run = (d1 i).run; link = (d1 i).link }) ∙ (λ i. record { used = 1; address = address; run = (d0 i).run; link = (d0 i).link });
        says = z ∙ (λ i. record { event = event.None; frames = One (g i); afresh = group; refused = false });
      }

  -- a change of group is sent
  pub switch-to-law :
      (x : Said) (y : List ℕ) (rejected group : ℕ) (own : List ℕ) (κ : Clock) (f : Frame) →
      decode_run W y ≡ set_t0 κ (switched (decode_run W (take (at - 7) (drop 7 s))) rejected group own) →
      f ≡ commit_frame group → x ≡ record { event = event.None; frames = One f; afresh = group; refused = false } → length y ≡ run_size W →
      Does W x (put_mid 7 (at - 7) s y) (sending κ (decode_peer W s) (switched (decode_peer W s).run rejected group own) (One (commit_frame group)) group)
  switch-to-law x y rejected group own κ f e j z k =
      sent-law W at p s h y (λ (r : Run). switched r rejected group own) κ (One (commit_frame group)) group x k e (z ∙ (λ i. record { event = event.None; frames = One (j i); afresh = group; refused = false }))
