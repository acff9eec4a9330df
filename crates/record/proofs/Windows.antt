-- A record's octets: a number in its place, and what a store in one part of them leaves.
use mathlib.Core.Path.{◌≡◌, refl, sym, ap, ◌∙◌}
use mathlib.Core.List.{List, [], ◌∷◌}
use Prim.Native.Nat.{ℕ, zero, suc, ◌+◌, ◌-◌, ◌≤◌, ◌<◌}
use native.Mathlib.Omega.{arith}
use lib.Dec.{lit<}
use lib.ListN.{length, take, drop, get_or, set, replicate}
use borrow.Rule.Slice.PartMut.{put_mid}
use Rattle.octets.specs.Octets.{part, put, num, oct}
use Rattle.octets.proofs.Laws.{length_part, part-part, part-put, part-put-before, part-put-after, length-oct, length-put, num-oct, mid-put}
use Rattle.groups.specs.Groups.{width, stored}
use Rattle.record.specs.Codec.{cut, total}
use Rattle.record.specs.Layout.{run_widths, run_of, decode_run, link_widths, link_of, decode_link, peer_widths, peer_of, decode_peer, run_size, link_size, record_size, link_at, no_run, no_link, no_peer}
use Rattle.record.specs.declared.Run.{Run}
use Rattle.record.specs.declared.Link.{Link}
use Rattle.record.specs.declared.Peer.{Peer}
use Rattle.record.proofs.Laws.{peer-at, no-run-at, no-link-at, no-peer-at}

-- ---- numbers

run-number : (W : ℕ) (s : List ℕ) (at n : ℕ) (f : Run → ℕ) → ((r : List ℕ) → f (decode_run W r) ≡ num (part r at n)) → at + n ≤ run_size W → f (decode_peer W s).run ≡ num (part s (7 + at) n)
run-number W s at n f e h = ap (λ (p : Peer). f p.run) (peer-at W s) ∙ e _ ∙ ap num (part-part s 7 (run_size W) at n h)

link-number : (W : ℕ) (s : List ℕ) (a at n : ℕ) (f : Link → ℕ) → ((l : List ℕ) → f (decode_link W l) ≡ num (part l at n)) → at + n ≤ link_size W → a ≡ link_at W → f (decode_peer W s).link ≡ num (part s (a + at) n)
link-number W s a at n f e h q = ap (λ (p : Peer). f p.link) (peer-at W s) ∙ e _ ∙ ap num (part-part s (link_at W) (link_size W) at n h ∙ ap (λ (k : ℕ). part s (k + at) n) (sym q))

module _ (W : ℕ) (s : List ℕ) where
  pub state-law : (decode_peer W s).run.state ≡ num (part s 7 1)
  unfolding decode_run run_of run_widths cut
  state-law = run-number W s 0 1 (λ r. r.state) (λ r. refl) (omega arith)

  pub sync-law : (decode_peer W s).run.sync ≡ num (part s 8 1)
  unfolding decode_run run_of run_widths cut
  sync-law = run-number W s 1 1 (λ r. r.sync) (λ r. refl) (omega arith)

  pub rejected-law : (decode_peer W s).run.rejected ≡ num (part s 9 1)
  unfolding decode_run run_of run_widths cut
  rejected-law = run-number W s 2 1 (λ r. r.rejected) (λ r. refl) (omega arith)

  pub sc-law : (decode_peer W s).run.sc ≡ num (part s 10 2)
  unfolding decode_run run_of run_widths cut
  sc-law = run-number W s 3 2 (λ r. r.sc) (λ r. refl) (omega arith)

  pub group-law : (decode_peer W s).run.group ≡ num (part s 12 2)
  unfolding decode_run run_of run_widths cut
  group-law = run-number W s 5 2 (λ r. r.group) (λ r. refl) (omega arith)

  pub t0-law : (decode_peer W s).run.t0 ≡ num (part s 16 4)
  unfolding decode_run run_of run_widths cut
  t0-law = run-number W s 9 4 (λ r. r.t0) (λ r. refl) (omega arith)

  pub toklen-law : (decode_peer W s).run.toklen ≡ num (part s 14 2)
  unfolding decode_run run_of run_widths cut
  toklen-law = run-number W s 7 2 (λ r. r.toklen) (λ r. refl) (omega arith)

  pub finished-law : (a : ℕ) → a ≡ link_at W → (decode_peer W s).link.finished ≡ num (part s (a + 0) 1)
  unfolding decode_link link_of link_widths cut
  finished-law a e = link-number W s a 0 1 (λ l. l.finished) (λ l. refl) (omega arith) e

  pub superseded-law : (a : ℕ) → a ≡ link_at W → (decode_peer W s).link.superseded ≡ num (part s (a + 1) 1)
  unfolding decode_link link_of link_widths cut
  superseded-law a e = link-number W s a 1 1 (λ l. l.superseded) (λ l. refl) (omega arith) e

  pub link-sync-law : (a : ℕ) → a ≡ link_at W → (decode_peer W s).link.sync ≡ num (part s (a + 2) 1)
  unfolding decode_link link_of link_widths cut
  link-sync-law a e = link-number W s a 2 1 (λ l. l.sync) (λ l. refl) (omega arith) e

  pub link-group-law : (a : ℕ) → a ≡ link_at W → (decode_peer W s).link.group ≡ num (part s (a + 4) 2)
  unfolding decode_link link_of link_widths cut
  link-group-law a e = link-number W s a 4 2 (λ l. l.group) (λ l. refl) (omega arith) e

  pub rc-law : (a : ℕ) → a ≡ link_at W → (decode_peer W s).link.rc ≡ num (part s (a + 6) 2)
  unfolding decode_link link_of link_widths cut
  rc-law a e = link-number W s a 6 2 (λ l. l.rc) (λ l. refl) (omega arith) e

  pub t1-law : (a : ℕ) → a ≡ link_at W → (decode_peer W s).link.t1 ≡ num (part s (a + 8) 4)
  unfolding decode_link link_of link_widths cut
  t1-law a e = link-number W s a 8 4 (λ l. l.t1) (λ l. refl) (omega arith) e

  pub address-law : (decode_peer W s).address ≡ part s 1 6
  address-law = ap (λ (p : Peer). p.address) (peer-at W s)

  pub own-law : (decode_peer W s).run.own ≡ stored (part s 20 W)
  unfolding decode_run run_of run_widths cut
  own-law = ap (λ (p : Peer). p.run.own) (peer-at W s) ∙ ap stored (part-part s 7 (run_size W) 13 W (omega arith))

  pub token-law : (decode_peer W s).run.token ≡ part s (7 + (13 + W + W)) 256
  unfolding decode_run run_of run_widths cut
  token-law = ap (λ (p : Peer). p.run.token) (peer-at W s) ∙ part-part s 7 (run_size W) (13 + W + W) 256 (omega arith)

  pub link-peer-law : (decode_peer W s).link.peer ≡ stored (part s (link_at W + (12 + W)) W)
  unfolding decode_link link_of link_widths cut
  link-peer-law = ap (λ (p : Peer). p.link.peer) (peer-at W s) ∙ ap stored (part-part s (link_at W) (link_size W) (12 + W) W (omega arith))

-- ---- commits and the token where they lie

module _ (W : ℕ) (s : List ℕ) (a e : ℕ) (h : length s ≡ record_size W) where
  pub own-part : a ≡ 20 → e ≡ a + W → (length (take (e - a) (drop a s)) ≡ W) × (stored (take (e - a) (drop a s)) ≡ (decode_peer W s).run.own)
  unfolding part
  own-part p q = let n : e - a ≡ W = omega arith in rw (n, p) (length_part s 20 W (omega arith), sym (own-law W s))

  pub token-part : a ≡ 7 + (13 + W + W) → e ≡ a + 256 → take (e - a) (drop a s) ≡ (decode_peer W s).run.token
  unfolding part
  token-part p q = let n : e - a ≡ 256 = omega arith in rw (n, p) (sym (token-law W s))

  pub link-peer-part : a ≡ link_at W + (12 + W) → e ≡ a + W → (length (take (e - a) (drop a s)) ≡ W) × (stored (take (e - a) (drop a s)) ≡ (decode_peer W s).link.peer)
  unfolding part
  link-peer-part p q = let n : e - a ≡ W = omega arith in rw (n, p) (length_part s (link_at W + (12 + W)) W (omega arith), sym (link-peer-law W s))

-- what reads a field where it lies
pub ruleset reads = (state-law, sync-law, rejected-law, sc-law, group-law, t0-law, toklen-law, finished-law, link-sync-law, link-group-law, rc-law, t1-law, token-part, link-peer-part)

-- ---- a field of many replaced

cut-after : (ws s : List ℕ) (b at : ℕ) (v : List ℕ) → at + length v ≤ length s → at + length v ≤ b → cut b ws (put s at v) ≡ cut b ws s
unfolding cut
cut-after [] s b at v h k = refl
cut-after (w ∷ ws) s b at v h k = rw (part-put-after s at v b w h k, cut-after ws s (b + w) at v h (omega arith)) refl

-- field i, which lies at `at`, becomes v
cut-put-from : (ws s : List ℕ) (a i at : ℕ) (v : List ℕ) → i < length ws → length v ≡ get_or ws i 0 → at ≡ a + total (take i ws) → at + length v ≤ length s → cut a ws (put s at v) ≡ set (cut a ws s) i v
unfolding cut total
cut-put-from [] s a i at v h l e k = absurd (omega arith)
cut-put-from (w ∷ ws) s a zero at v h l e k =
    let q : at ≡ a = omega arith in
    let m : a + length v ≤ length s = omega arith in
    let p : part (put s a v) a w ≡ v = ap (part (put s a v) a) (sym l) ∙ part-put s a v (omega arith) in
    rw (q, p, cut-after ws s (a + w) a v m (omega arith)) refl
cut-put-from (w ∷ ws) s a (suc i) at v h l e k =
    rw (part-put-before s at v a w (omega arith) (omega arith), cut-put-from ws s (a + w) i at v (omega arith) l (omega arith) k) refl

pub cut-put : (ws s : List ℕ) (i at : ℕ) (v : List ℕ) → i < length ws → length v ≡ get_or ws i 0 → at ≡ total (take i ws) → at + length v ≤ length s → cut 0 ws (put s at v) ≡ set (cut 0 ws s) i v
cut-put ws s i at v h l e k = cut-put-from ws s 0 i at v h l (omega arith) k

-- octets and their fields, and the length
pub record Laid (ws s : List ℕ) (fs : List (List ℕ)) (n : ℕ) : Type 0 where
  pub cuts : cut 0 ws s ≡ fs
  pub long : length s ≡ n

pub laid : (ws s : List ℕ) (n : ℕ) → length s ≡ n → Laid ws s (cut 0 ws s) n
laid ws s n h = record { cuts = refl; long = h }

pub laid-put : {ws s : List ℕ} {fs : List (List ℕ)} {n : ℕ} (t : List ℕ) (i at : ℕ) (v : List ℕ) → Laid ws s fs n → i < length ws → length v ≡ get_or ws i 0 → at ≡ total (take i ws) → at + length v ≤ n → t ≡ put s at v → Laid ws t (set fs i v) n
laid-put {ws} {s} {fs} {n} t i at v L h l e k q =
    let m = L.long in
    let b : at + length v ≤ length s = omega arith in
    record {
      cuts = ap (cut 0 ws) q ∙ cut-put ws s i at v h l e b ∙ ap (λ (x : List (List ℕ)). set x i v) L.cuts;
      long = ap length q ∙ length-put s at v b ∙ m;
    }

-- ---- a part of a record replaced

module _ (W : ℕ) (s : List ℕ) where
  used-of : (v : List ℕ) → peer_of W (set (cut 0 (peer_widths W) s) 0 v) ≡ record { used = num v; address = (decode_peer W s).address; run = (decode_peer W s).run; link = (decode_peer W s).link }
  unfolding decode_peer peer_of peer_widths run_widths link_widths total cut
  used-of v = refl

  address-of : (v : List ℕ) → peer_of W (set (cut 0 (peer_widths W) s) 1 v) ≡ record { used = (decode_peer W s).used; address = v; run = (decode_peer W s).run; link = (decode_peer W s).link }
  unfolding decode_peer peer_of peer_widths run_widths link_widths total cut
  address-of v = refl

  run-of : (v : List ℕ) → peer_of W (set (cut 0 (peer_widths W) s) 2 v) ≡ record { used = (decode_peer W s).used; address = (decode_peer W s).address; run = decode_run W v; link = (decode_peer W s).link }
  unfolding decode_peer peer_of peer_widths run_widths link_widths total cut
  run-of v = refl

  link-of : (v : List ℕ) → peer_of W (set (cut 0 (peer_widths W) s) 3 v) ≡ record { used = (decode_peer W s).used; address = (decode_peer W s).address; run = (decode_peer W s).run; link = decode_link W v }
  unfolding decode_peer peer_of peer_widths run_widths link_widths total cut
  link-of v = refl

module _ (W : ℕ) (s : List ℕ) (h : length s ≡ record_size W) where
  put-peer : (i at : ℕ) (v : List ℕ) → i < 4 → length v ≡ get_or (peer_widths W) i 0 → at ≡ total (take i (peer_widths W)) → at + length v ≤ length s
      → decode_peer W (put s at v) ≡ peer_of W (set (cut 0 (peer_widths W) s) i v)
  unfolding decode_peer peer_widths
  put-peer i at v n l e k = ap (peer_of W) (cut-put (peer_widths W) s i at v n l e k)

  pub used-left : (x : ℕ) → x < 256 → decode_peer W (put s 0 (oct 1 x)) ≡ record { used = x; address = (decode_peer W s).address; run = (decode_peer W s).run; link = (decode_peer W s).link }
  unfolding peer_widths total
  used-left x b =
      let n = num-oct 1 x b in
      put-peer 0 0 (oct 1 x) (lit< tt) (length-oct 1 x) refl (omega (arith, length-oct 1 x)) ∙ used-of W s (oct 1 x) ∙ (λ i. record { used = n i; address = (decode_peer W s).address; run = (decode_peer W s).run; link = (decode_peer W s).link })

  pub address-left : (a : List ℕ) → length a ≡ 6 → decode_peer W (put s 1 a) ≡ record { used = (decode_peer W s).used; address = a; run = (decode_peer W s).run; link = (decode_peer W s).link }
  unfolding peer_widths total
  address-left a n = put-peer 1 1 a (lit< tt) n refl (omega arith) ∙ address-of W s a

  -- the run in its own octets, and what a change of them leaves
  pub run-window : (n : ℕ) → n ≡ run_size W → decode_run W (take n (drop 7 s)) ≡ (decode_peer W s).run
  unfolding part
  run-window n q = ap (λ (k : ℕ). decode_run W (take k (drop 7 s))) q ∙ sym (ap (λ (p : Peer). p.run) (peer-at W s))

  pub run-left : (n : ℕ) (y : List ℕ) (r : Run) → n ≡ run_size W → length y ≡ run_size W → decode_run W y ≡ r
      → decode_peer W (put_mid 7 n s y) ≡ record { used = (decode_peer W s).used; address = (decode_peer W s).address; run = r; link = (decode_peer W s).link }
  unfolding peer_widths run_widths link_widths total
  run-left n y r q l e =
      ap (decode_peer W) (mid-put 7 n s y (l ∙ sym q)) ∙ put-peer 2 7 y (lit< tt) (omega arith) refl (omega arith) ∙ run-of W s y
      ∙ (λ i. record { used = (decode_peer W s).used; address = (decode_peer W s).address; run = e i; link = (decode_peer W s).link })

  -- the link in its own octets, and what a change of them leaves
  pub link-window : (a n : ℕ) → a ≡ link_at W → n ≡ link_size W → decode_link W (take n (drop a s)) ≡ (decode_peer W s).link
  unfolding part
  link-window a n p q = ap (λ (k : ℕ). decode_link W (take k (drop a s))) q ∙ ap (λ (k : ℕ). decode_link W (take (link_size W) (drop k s))) p ∙ sym (ap (λ (x : Peer). x.link) (peer-at W s))

  pub link_left : (a n : ℕ) (z : List ℕ) (l : Link) → a ≡ link_at W → n ≡ link_size W → length z ≡ link_size W → decode_link W z ≡ l
      → decode_peer W (put_mid a n s z) ≡ record { used = (decode_peer W s).used; address = (decode_peer W s).address; run = (decode_peer W s).run; link = l }
  unfolding peer_widths run_widths link_widths total
  link_left a n z l p q m e =
      ap (decode_peer W) (mid-put a n s z (m ∙ sym q)) ∙ put-peer 3 a z (lit< tt) (omega arith) (omega arith) (omega arith) ∙ link-of W s z
      ∙ (λ i. record { used = (decode_peer W s).used; address = (decode_peer W s).address; run = (decode_peer W s).run; link = e i })

-- ---- a part that is zero

pub no-run-left : (W n : ℕ) → W ≤ width → n ≡ run_size W → decode_run W (replicate n 0) ≡ no_run
no-run-left W n w e = rw e (no-run-at W w)

pub no-link-left : (W n : ℕ) → W ≤ width → n ≡ link_size W → decode_link W (replicate n 0) ≡ no_link
no-link-left W n w e = rw e (no-link-at W w)

pub no-peer-left : (W n : ℕ) → W ≤ width → n ≡ record_size W → decode_peer W (replicate n 0) ≡ no_peer
no-peer-left W n w e = rw e (no-peer-at W w)
