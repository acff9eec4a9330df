-- What the acts show of the octets that they leave, with commits stored by any width W.
use mathlib.Core.Path.{◌≡◌, refl, sym, ap, ◌∙◌, subst}
use mathlib.Core.Bool.{true, false}
use mathlib.Core.List.{List}
use Prim.Native.Nat.{ℕ, ◌+◌, ◌-◌, ◌≤◌, ◌<◌}
use native.Mathlib.Omega.{arith}
use lib.Dec.{eqb, ltb, lit<}
use lib.ListN.{length, take, drop, replicate, length-replicate, length-drop}
use lib.Seq.{length-take-le}
use borrow.Rule.Slice.PartMut.{put_mid}
use borrow.Author.Tests.{eq-eqb, ne_eqb, lt-ltb, le-ltb}
use Rattle.octets.specs.Octets.{part, put, num, oct}
use Rattle.octets.proofs.Laws.{length-oct, num-oct, length_part, length-put, mid-put, part-part, part-put, part-put-before}
use Rattle.groups.specs.Groups.{width, stored}
use Rattle.record.specs.Codec.{cut, total}
use Rattle.record.specs.Layout.{run_widths, run_of, decode_run, link_widths, link_of, decode_link, decode_peer, run_size, link_size, record_size, link_at, no_run, no_link}
use Rattle.record.specs.declared.Run.{Run}
use Rattle.record.specs.declared.Link.{Link}
use Rattle.record.specs.declared.Peer.{Peer}
use Rattle.record.proofs.Laws.{peer-at}
use Rattle.record.proofs.Windows.{laid, laid-put, used-left, address-left, run-window, run-left, link-window, link_left, no-run-left, no-link-left, no-peer-left, address-law, own-law, link-peer-law}
use Rattle.rules.specs.Parts.{with_sync, with_sc, with_own, with_mark, finished_as, with_run, with_link}
use Rattle.rules.specs.Book.{deadline, delay, set_t0, sending, settled, abandoning, retransmitting, formed_run, forming, supersede, link_of_run, accepting, ending_link}
use Rattle.rules.specs.Said.{saying_frames, saying_event, Does}
use Rattle.rules.specs.declared.Clock.{Clock}
use Rattle.rules.specs.declared.Event.TheVariants as event
use Rattle.rules.specs.declared.Frames.{Frames}
use Rattle.rules.specs.declared.Said.{Said}

-- ---- in the run's octets

module _ (W : ℕ) where
  pub store-own-law : (s t own : List ℕ) → length s ≡ run_size W → length own ≡ W → t ≡ put s 13 own → decode_run W t ≡ with_own (decode_run W s) (stored own)
  unfolding decode_run run_of run_widths cut total with_own
  store-own-law s t own h l q = ap run_of (laid-put t 7 13 own (laid (run_widths W) s (run_size W) h) (lit< tt) l refl (omega arith) q).cuts

  pub count_law : (s s₁ s₂ t : List ℕ) (sync sc : ℕ) (κ : Clock) (x : ℕ) → length s ≡ run_size W → sync < 256 → sc < 65536 → x < 4294967296 → x ≡ deadline κ.time (delay κ sync)
      → s₁ ≡ put s 1 (oct 1 sync) → s₂ ≡ put s₁ 3 (oct 2 sc) → t ≡ put s₂ 9 (oct 4 x) → decode_run W t ≡ set_t0 κ (with_sync (with_sc (decode_run W s) sc) sync)
  unfolding decode_run run_of run_widths cut total set_t0 with_sync with_sc
  count_law s s₁ s₂ t sync sc κ x h bn bc bx e q₁ q₂ q =
      let A = laid-put s₁ 1 1 (oct 1 sync) (laid (run_widths W) s (run_size W) h) (lit< tt) (length-oct 1 sync) refl (omega (arith, length-oct 1 sync)) q₁ in
      let B = laid-put s₂ 3 3 (oct 2 sc) A (lit< tt) (length-oct 2 sc) refl (omega (arith, length-oct 2 sc)) q₂ in
      let L = laid-put t 6 9 (oct 4 x) B (lit< tt) (length-oct 4 x) refl (omega (arith, length-oct 4 x)) q in
      ap run_of L.cuts ∙ (λ i. record {
        state = (decode_run W s).state;
        sync = num-oct 1 sync bn i;
        rejected = (decode_run W s).rejected;
        sc = num-oct 2 sc bc i;
        group = (decode_run W s).group;
        toklen = (decode_run W s).toklen;
        t0 = (num-oct 4 x bx ∙ e) i;
        own = (decode_run W s).own;
        peer = (decode_run W s).peer;
        token = (decode_run W s).token;
      })

  pub form-law : (s s₁ s₂ s₃ s₄ s₅ s₆ t theirs : List ℕ) (group at : ℕ) (κ : Clock) (x : ℕ) → length s ≡ run_size W → group < 65536 → x < 4294967296 → x ≡ deadline κ.time (delay κ 0)
      → length theirs ≡ W → at ≡ 13 + W
      → s₁ ≡ put s 0 (oct 1 2) → s₂ ≡ put s₁ 1 (oct 1 0) → s₃ ≡ put s₂ 2 (oct 1 0) → s₄ ≡ put s₃ 3 (oct 2 1) → s₅ ≡ put s₄ 5 (oct 2 group) → s₆ ≡ put s₅ 9 (oct 4 x) → t ≡ put s₆ at theirs
      → decode_run W t ≡ formed_run κ (decode_run W s) group (decode_run W s).own (stored theirs)
  unfolding decode_run run_of run_widths cut total set_t0 formed_run
  form-law s s₁ s₂ s₃ s₄ s₅ s₆ t theirs group at κ x h bg bx e m p q₁ q₂ q₃ q₄ q₅ q₆ q =
      let A = laid-put s₁ 0 0 (oct 1 2) (laid (run_widths W) s (run_size W) h) (lit< tt) (length-oct 1 2) refl (omega (arith, length-oct 1 2)) q₁ in
      let B = laid-put s₂ 1 1 (oct 1 0) A (lit< tt) (length-oct 1 0) refl (omega (arith, length-oct 1 0)) q₂ in
      let C = laid-put s₃ 2 2 (oct 1 0) B (lit< tt) (length-oct 1 0) refl (omega (arith, length-oct 1 0)) q₃ in
      let D = laid-put s₄ 3 3 (oct 2 1) C (lit< tt) (length-oct 2 1) refl (omega (arith, length-oct 2 1)) q₄ in
      let E = laid-put s₅ 4 5 (oct 2 group) D (lit< tt) (length-oct 2 group) refl (omega (arith, length-oct 2 group)) q₅ in
      let F = laid-put s₆ 6 9 (oct 4 x) E (lit< tt) (length-oct 4 x) refl (omega (arith, length-oct 4 x)) q₆ in
      let L = laid-put t 8 at theirs F (lit< tt) m (omega arith) (omega arith) q in
      ap run_of L.cuts ∙ (λ i. record {
        state = num-oct 1 2 (lit< tt) i;
        sync = num-oct 1 0 (lit< tt) i;
        rejected = num-oct 1 0 (lit< tt) i;
        sc = num-oct 2 1 (lit< tt) i;
        group = num-oct 2 group bg i;
        toklen = (decode_run W s).toklen;
        t0 = (num-oct 4 x bx ∙ e) i;
        own = (decode_run W s).own;
        peer = stored theirs;
        token = (decode_run W s).token;
      })

-- ---- in the link's octets

marked : (l : Link) → (l.finished ≡ 0 → ⊥) → supersede l ≡ with_mark l 1
unfolding supersede
marked l d = rw (ne_eqb _ _ d) refl

module _ (W : ℕ) where
  finished-of : (s : List ℕ) → (decode_link W s).finished ≡ num (part s 0 1)
  unfolding decode_link link_of link_widths cut
  finished-of s = refl

  pub link-free : (s : List ℕ) (f : ℕ) → f ≡ num (part s 0 1) → f ≡ 0 → decode_link W s ≡ supersede (decode_link W s)
  unfolding supersede
  link-free s f e z = let q : eqb (decode_link W s).finished 0 ≡ true = eq-eqb _ _ (finished-of s ∙ sym e ∙ z) in rw q refl

  mark-put : (s t : List ℕ) → length s ≡ link_size W → t ≡ put s 1 (oct 1 1) → decode_link W t ≡ with_mark (decode_link W s) 1
  unfolding decode_link link_of link_widths cut total num oct
  mark-put s t h q = ap link_of (laid-put t 1 1 (oct 1 1) (laid (link_widths W) s (link_size W) h) (lit< tt) (length-oct 1 1) refl (omega (arith, length-oct 1 1)) q).cuts

  pub link-marked : (s t : List ℕ) (f : ℕ) → length s ≡ link_size W → f ≡ num (part s 0 1) → (f ≡ 0 → ⊥) → t ≡ put s 1 (oct 1 1) → decode_link W t ≡ supersede (decode_link W s)
  link-marked s t f h e d q = mark-put s t h q ∙ sym (marked (decode_link W s) (λ z. d (e ∙ sym (finished-of s) ∙ z)))

  pub finish-law : (s s₁ s₂ s₃ s₄ s₅ s₆ t : List ℕ) (sync group counter time x : ℕ) → length s ≡ link_size W → sync < 256 → group < 65536 → counter < 65536 → x < 4294967296 → x ≡ deadline time 86400000
      → s₁ ≡ put s 0 (oct 1 1) → s₂ ≡ put s₁ 1 (oct 1 0) → s₃ ≡ put s₂ 2 (oct 1 sync) → s₄ ≡ put s₃ 3 (oct 1 0) → s₅ ≡ put s₄ 4 (oct 2 group) → s₆ ≡ put s₅ 6 (oct 2 counter) → t ≡ put s₆ 8 (oct 4 x)
      → decode_link W t ≡ finished_as (decode_link W s) sync group counter (deadline time 86400000)
  unfolding decode_link link_of link_widths cut total finished_as
  finish-law s s₁ s₂ s₃ s₄ s₅ s₆ t sync group counter time x h bn bg bc bx e q₁ q₂ q₃ q₄ q₅ q₆ q =
      let A = laid-put s₁ 0 0 (oct 1 1) (laid (link_widths W) s (link_size W) h) (lit< tt) (length-oct 1 1) refl (omega (arith, length-oct 1 1)) q₁ in
      let B = laid-put s₂ 1 1 (oct 1 0) A (lit< tt) (length-oct 1 0) refl (omega (arith, length-oct 1 0)) q₂ in
      let C = laid-put s₃ 2 2 (oct 1 sync) B (lit< tt) (length-oct 1 sync) refl (omega (arith, length-oct 1 sync)) q₃ in
      let D = laid-put s₄ 3 3 (oct 1 0) C (lit< tt) (length-oct 1 0) refl (omega (arith, length-oct 1 0)) q₄ in
      let E = laid-put s₅ 4 4 (oct 2 group) D (lit< tt) (length-oct 2 group) refl (omega (arith, length-oct 2 group)) q₅ in
      let F = laid-put s₆ 5 6 (oct 2 counter) E (lit< tt) (length-oct 2 counter) refl (omega (arith, length-oct 2 counter)) q₆ in
      let L = laid-put t 6 8 (oct 4 x) F (lit< tt) (length-oct 4 x) refl (omega (arith, length-oct 4 x)) q in
      ap link_of L.cuts ∙ (λ i. record {
        finished = num-oct 1 1 (lit< tt) i;
        superseded = num-oct 1 0 (lit< tt) i;
        sync = num-oct 1 sync bn i;
        spare = num-oct 1 0 (lit< tt) i;
        group = num-oct 2 group bg i;
        rc = num-oct 2 counter bc i;
        t1 = (num-oct 4 x bx ∙ e) i;
        own = (decode_link W s).own;
        peer = (decode_link W s).peer;
      })

-- ---- in the record's octets: the run lies from 7 to `at`, the link from there to `end`

pub run_long : (W at : ℕ) → at ≡ link_at W → at - 7 ≡ run_size W
run_long W at p = omega arith

pub link-long : (W at end : ℕ) → at ≡ link_at W → end ≡ record_size W → end - at ≡ link_size W
link-long W at end p q = omega arith

-- the run's octets, lent
pub run_lent : (W at : ℕ) (s : List ℕ) → at ≡ link_at W → length s ≡ record_size W → length (take (at - 7) (drop 7 s)) ≡ run_size W
run_lent W at s p h = length-take-le (at - 7) (drop 7 s) (simp length-drop (omega arith)) ∙ run_long W at p

-- a record with another run in its place, or another link, is as long as it was
pub run-kept : (W at : ℕ) (s y : List ℕ) → at ≡ link_at W → length s ≡ record_size W → length y ≡ run_size W → length (put_mid 7 (at - 7) s y) ≡ record_size W
run-kept W at s y p h n = ap length (mid-put 7 (at - 7) s y (n ∙ sym (run_long W at p))) ∙ length-put s 7 y (omega arith) ∙ h

pub link-kept : (W at end : ℕ) (s z : List ℕ) → at ≡ link_at W → end ≡ record_size W → length s ≡ record_size W → length z ≡ link_size W → length (put_mid at (end - at) s z) ≡ record_size W
link-kept W at end s z p q h n = ap length (mid-put at (end - at) s z (n ∙ sym (link-long W at end p q))) ∙ length-put s at z (omega arith) ∙ h

module _ (W : ℕ) (w : W ≤ width) where
  zero-run : (y : List ℕ) (m : ℕ) → y ≡ replicate m 0 → length y ≡ run_size W → decode_run W y ≡ no_run
  zero-run y m q n = ap (decode_run W) q ∙ no-run-left W m w (sym (length-replicate m 0) ∙ ap length (sym q) ∙ n)

  zero-link : (z : List ℕ) (m : ℕ) → z ≡ replicate m 0 → length z ≡ link_size W → decode_link W z ≡ no_link
  zero-link z m q n = ap (decode_link W) q ∙ no-link-left W m w (sym (length-replicate m 0) ∙ ap length (sym q) ∙ n)

module _ (W at : ℕ) (p : at ≡ link_at W) (s : List ℕ) (h : length s ≡ record_size W) where
  -- the run alone was changed, to what is said of the run that was there
  pub run-changed : (y : List ℕ) (f : Run → Run) → length y ≡ run_size W → decode_run W y ≡ f (decode_run W (take (at - 7) (drop 7 s))) → decode_peer W (put_mid 7 (at - 7) s y) ≡ with_run (decode_peer W s) (f (decode_peer W s).run)
  unfolding with_run
  run-changed y f n e = run-left W s h (at - 7) y _ (run_long W at p) n (e ∙ ap f (run-window W s h (at - 7) (run_long W at p)))

  -- the link alone
  pub link-changed : (end : ℕ) → end ≡ record_size W → (z : List ℕ) (f : Link → Link) → length z ≡ link_size W → decode_link W z ≡ f (decode_link W (take (end - at) (drop at s)))
      → decode_peer W (put_mid at (end - at) s z) ≡ with_link (decode_peer W s) (f (decode_peer W s).link)
  unfolding with_link
  link-changed end q z f n e = link_left W s h at (end - at) z _ p (link-long W at end p q) n (e ∙ ap f (link-window W s h at (end - at) p (link-long W at end p q)))

  -- the run was changed, and frames are sent for it
  pub sent-law : (y : List ℕ) (f : Run → Run) (κ : Clock) (fs : Frames) (afresh : ℕ) (x : Said) → length y ≡ run_size W → decode_run W y ≡ set_t0 κ (f (decode_run W (take (at - 7) (drop 7 s))))
      → x ≡ record { event = event.None; frames = fs; afresh = afresh; refused = false } → Does W x (put_mid 7 (at - 7) s y) (sending κ (decode_peer W s) (f (decode_peer W s).run) fs afresh)
  unfolding sending
  sent-law y f κ fs afresh x n e q = record { leaves = run-changed y (λ (r : Run). set_t0 κ (f r)) n e; says = q }

  pub send-law : (y : List ℕ) (sync sc : ℕ) (κ : Clock) (fs : Frames) (x : Said) → length y ≡ run_size W
      → decode_run W y ≡ set_t0 κ (with_sync (with_sc (decode_run W (take (at - 7) (drop 7 s))) sc) sync) → x ≡ saying_frames fs
      → Does W x (put_mid 7 (at - 7) s y) (sending κ (decode_peer W s) (with_sync (with_sc (decode_peer W s).run sc) sync) fs 0)
  send-law y sync sc κ fs x n e q = sent-law y (λ (r : Run). with_sync (with_sc r sc) sync) κ fs 0 x n e q

-- "Give up", and the end of a link
module _ (W : ℕ) (w : W ≤ width) (s : List ℕ) (h : length s ≡ record_size W) where
  pub abandon-freed : (u : List ℕ) (f : ℕ) (x : Said) → f ≡ (decode_peer W s).link.finished → f ≡ 0 → u ≡ replicate (length s) 0 → x ≡ saying_event event.Abandoned
      → Does W x u (abandoning (decode_peer W s))
  unfolding abandoning settled with_run no_run
  abandon-freed u f x e z q d =
      let k : eqb (decode_peer W s).link.finished 0 ≡ true = eq-eqb _ _ (sym e ∙ z) in
      record { leaves = rw k (ap (decode_peer W) q ∙ no-peer-left W _ w h); says = d }

  pub end-freed : (u : List ℕ) (f : ℕ) (x : Said) → f ≡ (decode_peer W s).run.state → f ≡ 0 → u ≡ replicate (length s) 0 → x ≡ saying_event event.Ended
      → Does W x u (ending_link (decode_peer W s))
  unfolding ending_link settled with_link no_link
  end-freed u f x e z q d =
      let k : eqb (decode_peer W s).run.state 0 ≡ true = eq-eqb _ _ (sym e ∙ z) in
      record { leaves = rw k (ap (decode_peer W) q ∙ no-peer-left W _ w h); says = d }

run-ended : (p : Peer) → (p.link.finished ≡ 0 → ⊥) → settled (with_run p no_run) ≡ with_run p no_run
unfolding settled with_run no_run
run-ended p d = rw (ne_eqb _ _ d) refl

link-ended : (p : Peer) → (p.run.state ≡ 0 → ⊥) → settled (with_link p no_link) ≡ with_link p no_link
unfolding settled with_link
link-ended p d = rw (ne_eqb _ _ d) refl

module _ (W at : ℕ) (w : W ≤ width) (p : at ≡ link_at W) (s : List ℕ) (h : length s ≡ record_size W) where
  -- the run's octets were cleared, and the link's
  run-cleared : (y : List ℕ) → length y ≡ run_size W → y ≡ replicate (length (take (at - 7) (drop 7 s))) 0 → decode_peer W (put_mid 7 (at - 7) s y) ≡ with_run (decode_peer W s) no_run
  run-cleared y n q = run-changed W at p s h y (λ (r : Run). no_run) n (zero-run W w y (length (take (at - 7) (drop 7 s))) q n)

  link-cleared : (end : ℕ) → end ≡ record_size W → (z : List ℕ) → length z ≡ link_size W → z ≡ replicate (length (take (end - at) (drop at s))) 0 → decode_peer W (put_mid at (end - at) s z) ≡ with_link (decode_peer W s) no_link
  link-cleared end e z n q = link-changed W at p s h end e z (λ (l : Link). no_link) n (zero-link W w z (length (take (end - at) (drop at s))) q n)

  pub abandon-kept : (y : List ℕ) (f : ℕ) (x : Said) → f ≡ (decode_peer W s).link.finished → (f ≡ 0 → ⊥) → y ≡ replicate (length (take (at - 7) (drop 7 s))) 0 → length y ≡ run_size W → x ≡ saying_event event.Abandoned
      → Does W x (put_mid 7 (at - 7) s y) (abandoning (decode_peer W s))
  unfolding abandoning
  abandon-kept y f x e d q n r = record { leaves = run-cleared y n q ∙ sym (run-ended (decode_peer W s) (λ z. d (e ∙ z))); says = r }

  pub end_kept : (end : ℕ) → end ≡ record_size W → (z : List ℕ) (f : ℕ) (x : Said) → f ≡ (decode_peer W s).run.state → (f ≡ 0 → ⊥) → z ≡ replicate (length (take (end - at) (drop at s))) 0 → length z ≡ link_size W → x ≡ saying_event event.Ended
      → Does W x (put_mid at (end - at) s z) (ending_link (decode_peer W s))
  unfolding ending_link
  end_kept end g z f x e d q n r = record { leaves = link-cleared end g z n q ∙ sym (link-ended (decode_peer W s) (λ k. d (e ∙ k))); says = r }

-- ---- the run becomes the link

-- what was copied is read where it went
copied : (s : List ℕ) (from to n f a m : ℕ) → from + n ≤ length s → to ≤ length s → to ≤ a → a + m ≤ to + n → f + to ≡ a + from → part (put s to (part s from n)) a m ≡ part s f m
copied s from to n f a m h k l b e =
    let t = put s to (part s from n) in
    let x : a ≡ to + (a - to) = omega arith in
    let y : from + (a - to) ≡ f = omega arith in
    let z : part t to n ≡ part s from n = ap (part t to) (sym (length_part s from n h)) ∙ part-put s to (part s from n) k in
    ap (λ (i : ℕ). part t i m) x ∙ sym (part-part t to n (a - to) m (omega arith)) ∙ ap (λ (v : List ℕ). part v (a - to) m) z ∙ part-part s from n (a - to) m (omega arith)
    ∙ ap (λ (i : ℕ). part s i m) y

module _ (W : ℕ) (s : List ℕ) where
  run-peer-law : (decode_peer W s).run.peer ≡ stored (part s (20 + W) W)
  unfolding decode_run run_of run_widths cut
  run-peer-law = ap (λ (x : Peer). x.run.peer) (peer-at W s) ∙ ap stored (part-part s 7 (run_size W) (13 + W) W (omega arith) ∙ ap (λ (i : ℕ). part s i W) (omega arith))

  link-own-law : (decode_peer W s).link.own ≡ stored (part s (link_at W + 12) W)
  unfolding decode_link link_of link_widths cut
  link-own-law = ap (λ (x : Peer). x.link.own) (peer-at W s) ∙ ap stored (part-part s (link_at W) (link_size W) 12 W (omega arith))

module _ (W at : ℕ) (p : at ≡ link_at W) (s t : List ℕ) (h : length s ≡ record_size W) (q : t ≡ put s (at + 12) (part s 20 (W + W))) where
  -- the copy changes nothing before the link's commits, and these are then the run's
  before : (a n : ℕ) → a + n ≤ at + 12 → part t a n ≡ part s a n
  before a n l = ap (λ (x : List ℕ). part x a n) q ∙ part-put-before s (at + 12) (part s 20 (W + W)) a n (omega arith) l

  copy-long : length t ≡ record_size W
  copy-long = let l : length (part s 20 (W + W)) ≡ W + W = length_part s 20 (W + W) (omega arith) in ap length q ∙ length-put s (at + 12) (part s 20 (W + W)) (omega arith) ∙ h

  copy-used : (decode_peer W t).used ≡ (decode_peer W s).used
  copy-used = ap (λ (x : Peer). x.used) (peer-at W t) ∙ ap num (before 0 1 (omega arith)) ∙ sym (ap (λ (x : Peer). x.used) (peer-at W s))

  copy-address : (decode_peer W t).address ≡ (decode_peer W s).address
  copy-address = address-law W t ∙ before 1 6 (omega arith) ∙ sym (address-law W s)

  copy-own : (decode_peer W t).link.own ≡ (decode_peer W s).run.own
  copy-own = link-own-law W t ∙ ap stored (ap (λ (x : List ℕ). part x (link_at W + 12) W) q ∙ copied s 20 (at + 12) (W + W) 20 (link_at W + 12) W (omega arith) (omega arith) (omega arith) (omega arith) (omega arith))
      ∙ sym (own-law W s)

  copy-peer : (decode_peer W t).link.peer ≡ (decode_peer W s).run.peer
  copy-peer = link-peer-law W t
      ∙ ap stored (ap (λ (x : List ℕ). part x (link_at W + (12 + W)) W) q ∙ copied s 20 (at + 12) (W + W) (20 + W) (link_at W + (12 + W)) W (omega arith) (omega arith) (omega arith) (omega arith) (omega arith))
      ∙ sym (run-peer-law W s)

  pub accept-law : (end : ℕ) (z y : List ℕ) (sync group counter time : ℕ) (x : Said) → W ≤ width → end ≡ record_size W → length z ≡ link_size W → length y ≡ run_size W → sync ≡ (decode_peer W s).run.sync → group ≡ (decode_peer W s).run.group → decode_link W z ≡ finished_as (decode_link W (take (end - at) (drop at t))) sync group counter (deadline time 86400000)
      → y ≡ replicate (length (take (at - 7) (drop 7 (put_mid at (end - at) t z)))) 0 → x ≡ saying_event event.Accepted
      → Does W x (put_mid 7 (at - 7) (put_mid at (end - at) t z) y) (accepting (decode_peer W s) counter time)
  unfolding accepting link_of_run finished_as with_run with_link
  accept-law end z y sync group counter time x w e nz ny es eg ez ey d =
      let nt = copy-long in
      let nu = link-kept W at end t z p e nt nz in
      let l = link-changed W at p t nt end e z (λ (l : Link). finished_as l sync group counter (deadline time 86400000)) nz ez in
      let a = copy-used in
      let b = copy-address in
      let o = copy-own in
      let r = copy-peer in
      record {
        leaves = run-cleared W at w p (put_mid at (end - at) t z) nu y ny ey ∙ ap (λ (v : Peer). with_run v no_run) l ∙ (λ i. record {
          used = a i;
          address = b i;
          run = no_run;
          link = record { finished = 1; superseded = 0; sync = es i; spare = 0; group = eg i; rc = counter; t1 = deadline time 86400000; own = o i; peer = r i };
        });
        says = d;
      }

-- ---- "Form"

module _ (W at end : ℕ) (p : at ≡ link_at W) (q : end ≡ record_size W) (s : List ℕ) (h : length s ≡ record_size W) where
  pub form-pair-law : (y z u v address theirs : List ℕ) (group afresh : ℕ) (κ : Clock) (fs : Frames) (x : Said)
      → length y ≡ run_size W → length z ≡ link_size W → length address ≡ 6
      → decode_run W y ≡ formed_run κ (decode_run W (take (at - 7) (drop 7 s))) group (decode_run W (take (at - 7) (drop 7 s))).own theirs
      → decode_link W z ≡ supersede (decode_link W (take (end - at) (drop at (put_mid 7 (at - 7) s y))))
      → u ≡ put (put_mid at (end - at) (put_mid 7 (at - 7) s y) z) 0 (oct 1 1) → v ≡ put u 1 address
      → x ≡ record { event = event.None; frames = fs; afresh = afresh; refused = false }
      → Does W x v (forming κ (decode_peer W s) address group (decode_peer W s).run.own theirs fs afresh)
  unfolding forming with_run with_link
  form-pair-law y z u v address theirs group afresh κ fs x ny nz nd ey ez eu ev d =
      let na = run-kept W at s y p h ny in
      let nb = link-kept W at end (put_mid 7 (at - 7) s y) z p q na nz in
      let nu : length u ≡ record_size W = ap length eu ∙ length-put (put_mid at (end - at) (put_mid 7 (at - 7) s y) z) 0 (oct 1 1) (omega (arith, length-oct 1 1)) ∙ nb in
      let a = run-changed W at p s h y (λ (r : Run). formed_run κ r group r.own theirs) ny ey in
      let b = link-changed W at p (put_mid 7 (at - 7) s y) na end q z supersede nz ez in
      let c = used-left W (put_mid at (end - at) (put_mid 7 (at - 7) s y) z) nb 1 (lit< tt) in
      record {
        leaves = ap (decode_peer W) ev ∙ address-left W u nu address nd ∙ ap (λ (o : Peer). record { used = o.used; address = address; run = o.run; link = o.link }) (ap (decode_peer W) eu ∙ c
            ∙ ap (λ (o : Peer). record { used = 1; address = o.address; run = o.run; link = o.link }) (b ∙ ap (λ (o : Peer). with_link o (supersede o.link)) a));
        says = d;
      }

-- ---- "Repeat"

module _ (W : ℕ) (s u : List ℕ) (x : Said) (sc : ℕ) (κ : Clock) (fs : Frames) (n : ℕ) (e : n ≡ (decode_peer W s).run.sync) where
  pub repeat-ended : κ.limit < n → Does W x u (abandoning (decode_peer W s)) → Does W x u (retransmitting κ (decode_peer W s) (with_sc (decode_peer W s).run sc) fs)
  unfolding retransmitting
  repeat-ended l d = let k : ltb κ.limit (decode_peer W s).run.sync ≡ true = lt-ltb _ _ (subst (λ (m : ℕ). κ.limit < m) e l) in rw k d

  pub repeat-sent : n ≤ κ.limit → Does W x u (sending κ (decode_peer W s) (with_sync (with_sc (decode_peer W s).run sc) (n + 1)) fs 0) → Does W x u (retransmitting κ (decode_peer W s) (with_sc (decode_peer W s).run sc) fs)
  unfolding retransmitting
  repeat-sent l d =
      let k : ltb κ.limit (decode_peer W s).run.sync ≡ false = le-ltb _ _ (subst (λ (m : ℕ). m ≤ κ.limit) e l) in
      rw k (subst (λ (m : ℕ). Does W x u (sending κ (decode_peer W s) (with_sync (with_sc (decode_peer W s).run sc) (m + 1)) fs 0)) e d)
