-- WITH WHICH 32 OCTETS A SOUND TABLE STARTS: with those that are possible, and with no others.
use mathlib.Core.Path.{◌≡◌, refl, sym, ap, ◌∙◌, subst}
use mathlib.Core.Logic.{◌⊎◌, inl, inr}
use mathlib.Core.Bool.{Bool, true, false, not, ◌&&◌, ◌||◌}
use mathlib.Core.List.{List, [], ◌∷◌}
use Prim.Native.Nat.{ℕ, zero, suc, ◌+◌, ◌-◌, ◌≤◌, ◌<◌}
use native.Mathlib.Omega.{arith}
use native.Mathlib.Decide.{ℕ_discrete}
use lib.Dec.{eqb, leb, ltb, lit<}
use lib.ListN.{length, take, get_or, replicate, length-replicate}
use lib.Seq.{length-take-le, take_at, take_all}
use borrow.Author.Tests.{eqb-true, leb-true, eq-eqb, le-leb, ne_eqb, ltb-true, lt-ltb, le-ltb}
use Rattle.octets.specs.Octets.{Bytes, num, part, all_zero, individual, zero_address, same_address}
use Rattle.octets.specs.Scan.{count_below, bit}
use Rattle.octets.proofs.Laws.{num-inj}
use Rattle.octets.proofs.Tests.{zero-zeros}
use Rattle.octets.proofs.Scan.{clash, cases, and_left, and_right, and_both, count-le, count-ext}
use Rattle.groups.specs.Groups.{width, commit_length, listed, index_of}
use Rattle.groups.proofs.Laws.{bytes-zeros, none-marked, pow_pos, drop-zeros}
use Rattle.record.specs.declared.Run.{Run}
use Rattle.record.specs.declared.Link.{Link}
use Rattle.record.specs.declared.Peer.{Peer}
use Rattle.record.specs.declared.Counts.{Counts}
use Rattle.record.specs.declared.Header.{Header}
use Rattle.record.specs.Layout.{encode_header, decode_header, groups_of, width_in, no_run, no_link, no_peer}
use Rattle.record.proofs.Laws.{FitRun, FitPeer, FitHeader, StorablePeer, shape-peer, fit-header, fit-no-run, fit-no-peer, header-front, enc-dec-header, length-header}
use Rattle.soundness.specs.Soundness.{usable, header_ok, high_sync, commit_ok, run_ok, link_ok, peer_ok}
use Rattle.soundness.proofs.Laws.{no-run-ok, no-peer-ok, peer-unused, peer-in-use, in-use-peer, committed-is-run, finished-is-link, header-groups, header-slots}
use Rattle.soundness.proofs.Storable.{header-room, peer-storable}
use Rattle.table.specs.Table.{Table, decode_table, encode_table, slot, slots, in_use, is_open, is_good, belongs, used_count, open_count, good_count, counts_of, sound}
use Rattle.table.proofs.Octets.{FitTable, Fits, none, more, bytes-table}
use Rattle.table.proofs.Fit.{fit-decoded, fit-slot}
use Rattle.table.proofs.Laws.{sound-long, sound-header, sound-whole, sound-peer, and-false, peers-held}
use Rattle.table.proofs.Kept.{Form, sound-form, form-sound}
use Rattle.good_links.specs.GoodLinks.{Starts, counts_possible, header_possible, possible}

-- ---- a sound table starts with possible octets: a record that is open or has a good link is in use

count-some : (f g : ℕ → Bool) (n : ℕ) → ((k : ℕ) → k < n → f k ≡ true → g k ≡ true) → count_below f n ≤ count_below g n
unfolding count_below
count-some f g zero h = omega arith
count-some f g (suc n) h = let w = count-some f g n (λ k l. h k (omega arith)) in omega (arith, w, fewer (f n) (g n) (h n (omega arith)))
  where
    fewer : (a b : Bool) → (a ≡ true → b ≡ true) → bit a ≤ bit b
    fewer true b e = rw (e refl) (omega arith)
    fewer false b e = omega arith

none_open : is_open no_peer ≡ false
unfolding no_peer no_run
none_open = refl

none-good : is_good no_peer ≡ false
unfolding no_peer no_link
none-good = refl

module _ (t : List ℕ) (b : Bytes t) (s : sound t ≡ true) where
  -- a record that has something which the free record lacks is in use
  in-use-if : (f : Peer → Bool) → f no_peer ≡ false → (k : ℕ) → k < slots (decode_table t) → f (slot (decode_table t) k) ≡ true → in_use (slot (decode_table t) k) ≡ true
  in-use-if f z k h e =
      let p = slot (decode_table t) k in
      let w = sound-whole t s in
      let fits : FitPeer width p = fit-slot (decode_table t) k (fit-decoded t _ b w) (omega (arith, peers-held t _ w, h)) in
      elim (ℕ_discrete p.used 0) [
        | yes q ↦ absurd (clash e (ap f (peer-unused _ _ _ p (shape-peer fits) (sound-peer t s k h) q) ∙ z))
        | no d ↦ eq-eqb _ _ (peer-in-use _ _ _ p d (sound-peer t s k h)).used
      ]

  sound-possible : header_possible (decode_table t).header ≡ true
  unfolding header_possible counts_possible used_count open_count good_count
  sound-possible =
      let c = (sound-form t s).counts in
      let u : (decode_table t).header.counts.used ≡ used_count (decode_table t) = ap (λ (n : Counts). n.used) c in
      let o : (decode_table t).header.counts.opened ≡ open_count (decode_table t) = ap (λ (n : Counts). n.opened) c in
      let g : (decode_table t).header.counts.good ≡ good_count (decode_table t) = ap (λ (n : Counts). n.good) c in
      let n : open_count (decode_table t) ≤ used_count (decode_table t) = count-some _ _ (slots (decode_table t)) (in-use-if is_open none_open) in
      let m : good_count (decode_table t) ≤ used_count (decode_table t) = count-some _ _ (slots (decode_table t)) (in-use-if is_good none-good) in
      let l : used_count (decode_table t) ≤ slots (decode_table t) = count-le _ (slots (decode_table t)) in
      let a : (decode_table t).header.counts.opened ≤ (decode_table t).header.counts.used = omega (arith, u, o, n) in
      let b : (decode_table t).header.counts.used ≤ slots (decode_table t) = omega (arith, u, l) in
      let d : (decode_table t).header.counts.good ≤ (decode_table t).header.counts.used = omega (arith, u, g, m) in
      and_both _ _ (sound-header t s) (and_both _ _ (le-leb _ _ a) (and_both _ _ (le-leb _ _ b) (le-leb _ _ d)))

  pub front-header : decode_header (take 32 t) ≡ (decode_table t).header
  unfolding decode_table part
  front-header = header-front t

  pub sound-starts : possible (take 32 t) ≡ true
  unfolding possible
  sound-starts = and_both _ _ (eq-eqb _ _ (length-take-le 32 t (sound-long t s))) (ap header_possible front-header ∙ sound-possible)

  -- ON A SOUND TABLE the field is the count over all records
  pub front-good : (decode_header (take 32 t)).counts.good ≡ good_count (decode_table t)
  front-good = ap (λ (h : Header). h.counts.good) front-header ∙ ap (λ (n : Counts). n.good) (sound-form t s).counts

pub starts-possible : (s : List ℕ) → Starts s → possible s ≡ true
starts-possible s S = subst (λ (x : List ℕ). possible x ≡ true) S.starts (sound-starts S.table S.bytes S.sound)

-- ---- possible octets start a sound table: so many records in use, each with a link in the first group over commits of zeros, the first ones clear and the
-- others marked, the first ones with a run in Committed too

-- an octet unlike the own address's fifth
unlike : ℕ → ℕ
unlike zero = 1
unlike (suc x) = 0

abbrev address_of : List ℕ → ℕ → List ℕ
address_of own i = 2 ∷ 0 ∷ 0 ∷ 0 ∷ unlike (get_or own 4 0) ∷ i ∷ []

run_if : Bool → ℕ → Run
run_if true g =
    record {
      state = 1;
      sync = 0;
      rejected = 0;
      sc = 0;
      group = g;
      toklen = 0;
      t0 = 0;
      own = replicate width 0;
      peer = replicate width 0;
      token = replicate 256 0;
    }
run_if false g = no_run

mark_if : Bool → ℕ
mark_if true = 0
mark_if false = 1

abbrev link_if : Bool → ℕ → Link
link_if clear g =
    record { finished = 1; superseded = mark_if clear; sync = 0; spare = 0; group = g; rc = 0; t1 = 0; own = replicate width 0; peer = replicate width 0 }

peer_if : Bool → Bool → Bool → List ℕ → ℕ → ℕ → Peer
peer_if true running clear own g i = record { used = 1; address = address_of own i; run = run_if running g; link = link_if clear g }
peer_if false running clear own g i = no_peer

-- the record of slot i
abbrev peer_at : Header → ℕ → Peer
peer_at h i = peer_if (ltb i h.counts.used) (ltb i h.counts.opened) (ltb i h.counts.good) h.own (get_or h.settings.groups 0 0) i

list_from : (ℕ → Peer) → ℕ → ℕ → List Peer
list_from f i zero = []
list_from f i (suc n) = f i ∷ list_from f (suc i) n

length-list : (f : ℕ → Peer) (i n : ℕ) → length (list_from f i n) ≡ n
unfolding list_from
length-list f i zero = refl
length-list f i (suc n) = ap suc (length-list f (suc i) n)

list_at : (f : ℕ → Peer) (i n k : ℕ) → k < n → get_or (list_from f i n) k no_peer ≡ f (i + k)
unfolding list_from
list_at f i zero k h = absurd (omega arith)
list_at f i (suc n) zero h = let e : i ≡ i + 0 = omega arith in ap f e
list_at f i (suc n) (suc k) h = let e : suc i + k ≡ i + suc k = omega arith in list_at f (suc i) n k (omega arith) ∙ ap f e

abbrev witness : Header → Table
witness h = record { header = h; peers = list_from (peer_at h) 0 h.geometry.slots }

witness-slot : (h : Header) (k : ℕ) → k < h.geometry.slots → slot (witness h) k ≡ peer_at h k
unfolding slot
witness-slot h k l = list_at (peer_at h) 0 h.geometry.slots k l ∙ (let e : 0 + k ≡ k = omega arith in ap (peer_at h) e)

-- so many numbers are below a bound
count-below : (m n : ℕ) → m ≤ n → count_below (λ k. ltb k m) n ≡ m
unfolding count_below
count-below m zero h = omega arith
count-below m (suc n) h = elim (ℕ_discrete m (suc n)) [
  | yes e ↦
      let l : ltb n m ≡ true = lt-ltb n m (omega arith) in
      let w : count_below (λ k. ltb k m) n ≡ n = count-ext (λ k. ltb k m) (λ k. ltb k n) n (λ k q. lt-ltb k m (omega arith) ∙ sym (lt-ltb k n q)) ∙ count-below n n (omega arith) in
      rw (w, l) (omega arith)
  | no d ↦
      let l : ltb n m ≡ false = le-ltb n m (omega arith) in
      rw (count-below m n (omega arith), l) (omega arith)
]

-- what is counted of a record
in-use-is : (u o c : Bool) (own : List ℕ) (g i : ℕ) → in_use (peer_if u o c own g i) ≡ u
unfolding no_peer peer_if
in-use-is true o c own g i = refl
in-use-is false o c own g i = refl

used-at : (h : Header) (k : ℕ) → in_use (peer_at h k) ≡ ltb k h.counts.used
used-at h k = in-use-is (ltb k h.counts.used) (ltb k h.counts.opened) (ltb k h.counts.good) h.own (get_or h.settings.groups 0 0) k

open_is : (u o c : Bool) (own : List ℕ) (g i : ℕ) → (o ≡ true → u ≡ true) → is_open (peer_if u o c own g i) ≡ o
unfolding no_peer no_run peer_if run_if
open_is true true c own g i e = refl
open_is true false c own g i e = refl
open_is false true c own g i e = absurd (clash (e refl) refl)
open_is false false c own g i e = refl

good-is : (u o c : Bool) (own : List ℕ) (g i : ℕ) → (c ≡ true → u ≡ true) → is_good (peer_if u o c own g i) ≡ c
unfolding no_peer no_link peer_if mark_if
good-is true o true own g i e = refl
good-is true o false own g i e = refl
good-is false o true own g i e = absurd (clash (e refl) refl)
good-is false o false own g i e = refl

address-if : (u o c : Bool) (own : List ℕ) (g i : ℕ) → u ≡ true → (peer_if u o c own g i).address ≡ address_of own i
unfolding peer_if
address-if true o c own g i e = refl
address-if false o c own g i e = absurd (clash e refl)

address_is : (h : Header) (k : ℕ) → ltb k h.counts.used ≡ true → (peer_at h k).address ≡ address_of h.own k
address_is h k = address-if (ltb k h.counts.used) (ltb k h.counts.opened) (ltb k h.counts.good) h.own (get_or h.settings.groups 0 0) k

below-too : (m n k : ℕ) → m ≤ n → ltb k m ≡ true → ltb k n ≡ true
below-too m n k h e = let w = ltb-true k m e in lt-ltb k n (omega (arith, w, h))

-- ---- its addresses

unlike-small : (x : ℕ) → unlike x < 256
unfolding unlike
unlike-small zero = lit< tt
unlike-small (suc x) = lit< tt

unlike-not : (x : ℕ) → unlike x ≡ x → ⊥
unfolding unlike
unlike-not zero e = omega arith
unlike-not (suc x) e = omega arith

bytes-address : (own : List ℕ) (i : ℕ) → i < 256 → Bytes (address_of own i)
bytes-address own i h zero = lit< tt
bytes-address own i h (suc zero) = lit< tt
bytes-address own i h (suc (suc zero)) = lit< tt
bytes-address own i h (suc (suc (suc zero))) = lit< tt
bytes-address own i h (suc (suc (suc (suc zero)))) = unlike-small (get_or own 4 0)
bytes-address own i h (suc (suc (suc (suc (suc zero))))) = h
bytes-address own i h (suc (suc (suc (suc (suc (suc k)))))) = lit< tt

address-usable : (own : List ℕ) (i : ℕ) → length own ≡ 6 → Bytes own → i < 256 → usable own (address_of own i) ≡ true
unfolding usable individual zero_address same_address num
address-usable own i lo bo h =
    let z : eqb (num (address_of own i)) 0 ≡ false = ne_eqb _ _ not_zero in
    let d : eqb (num (address_of own i)) (num own) ≡ false = ne_eqb _ _ (λ e. unlike-not (get_or own 4 0) (ap (λ (a : List ℕ). get_or a 4 0) (num-inj (address_of own i) own (sym lo) (bytes-address own i h) bo e))) in
    and_both _ _ refl (and_both _ _ (ap not z) (ap not d))
  where
    not_zero : num (address_of own i) ≡ 0 → ⊥
    not_zero e = omega (arith, e)

addresses-differ : (own : List ℕ) (i j : ℕ) → i < 256 → j < 256 → (i ≡ j → ⊥) → same_address (address_of own i) (address_of own j) ≡ false
unfolding same_address
addresses-differ own i j hi hj d =
    ne_eqb _ _ (λ e. d (ap (λ (a : List ℕ). get_or a 5 0) (num-inj (address_of own i) (address_of own j) refl (bytes-address own i hi) (bytes-address own j hj) e)))

-- ---- its form

zeros-commit : (g : ℕ) → commit_ok g (replicate width 0) ≡ true
unfolding commit_ok
zeros-commit g = ap all_zero (drop-zeros width (commit_length g)) ∙ zero-zeros (width - commit_length g)

first-listed : (n : ℕ) (gs : List ℕ) → 1 ≤ n → length gs ≡ 3 → listed (take n gs) (get_or gs 0 0) ≡ true
unfolding listed
first-listed zero gs h l = absurd (omega arith)
first-listed (suc n) [] h l = absurd (omega arith)
first-listed (suc n) (g ∷ gs) h l = let e : eqb g g ≡ true = eq-eqb g g refl in rw e

module _ (gs : List ℕ) (high g : ℕ) (l : listed gs g ≡ true) where
  run-ok : (o : Bool) → run_ok gs high (run_if o g) ≡ true
  unfolding run_if
  run-ok true = committed-is-run gs high (run_if true g) refl (record {
    sync = omega arith;
    below = pow_pos (length gs);
    clear = none-marked (index_of gs g);
    sc = refl;
    listed = l;
    token = record { short = omega arith; rest = zero-zeros 256 };
    own = zeros-commit g;
    peer = zero-zeros width;
  })
  run-ok false = no-run-ok gs high

  link-ok : (c : Bool) → link_ok gs high (link_if c g) ≡ true
  unfolding mark_if
  link-ok c = finished-is-link gs high (link_if c g) (record {
    finished = refl;
    superseded = mark-small c;
    sync = omega arith;
    spare = refl;
    listed = l;
    own = zeros-commit g;
    peer = zeros-commit g;
  })
    where
      mark-small : (b : Bool) → mark_if b ≤ 1
      mark-small true = omega arith
      mark-small false = omega arith

  peer-ok : (u o c : Bool) (own : List ℕ) (i : ℕ) → length own ≡ 6 → Bytes own → i < 256 → peer_ok own gs high (peer_if u o c own g i) ≡ true
  unfolding peer_if run_if
  peer-ok true o c own i lo bo h = in-use-peer own gs high (peer_if true o c own g i) (record {
    used = refl;
    usable = address-usable own i lo bo h;
    run = run-ok o;
    link = link-ok c;
    some = or-linked (not (eqb (run_if o g).state 0));
  })
    where
      or-linked : (b : Bool) → (b || true) ≡ true
      or-linked true = refl
      or-linked false = refl
  peer-ok false o c own i lo bo h = no-peer-ok own gs high

-- ---- and its size

fit-peer-if : (u o c : Bool) (own : List ℕ) (g i : ℕ) → g < 65536 → i < 256 → FitPeer width (peer_if u o c own g i)
unfolding peer_if run_if mark_if
fit-peer-if false o c own g i hg hi = fit-no-peer
fit-peer-if true o c own g i hg hi = record {
  used = lit< tt;
  address = refl;
  bytes = bytes-address own i hi;
  run = fit-run o;
  link = record {
    shape = record {
      finished = lit< tt;
      superseded = mark-fits c;
      sync = lit< tt;
      spare = lit< tt;
      group = hg;
      rc = lit< tt;
      t1 = lit< tt;
      own = length-replicate {A = ℕ} width 0;
      peer = length-replicate {A = ℕ} width 0;
    };
    own = bytes-zeros width;
    peer = bytes-zeros width;
  };
}
  where
    mark-fits : (b : Bool) → mark_if b < 256
    mark-fits true = lit< tt
    mark-fits false = lit< tt

    fit-run : (b : Bool) → FitRun width (run_if b g)
    fit-run true = record {
      shape = record {
        state = lit< tt;
        sync = lit< tt;
        rejected = lit< tt;
        sc = lit< tt;
        group = hg;
        toklen = lit< tt;
        t0 = lit< tt;
        own = length-replicate {A = ℕ} width 0;
        peer = length-replicate {A = ℕ} width 0;
        token = length-replicate {A = ℕ} 256 0;
      };
      own = bytes-zeros width;
      peer = bytes-zeros width;
      token = bytes-zeros 256;
    }
    fit-run false = fit-no-run

fits-list : (W : ℕ) (f : ℕ → Peer) (i n : ℕ) → ((k : ℕ) → k < i + n → FitPeer width (f k) × StorablePeer W (f k)) → Fits W (list_from f i n)
unfolding list_from
fits-list W f i zero h = none
fits-list W f i (suc n) h = let w = h i (omega arith) in more w.0 w.1 (fits-list W f (suc i) n (λ k l. h k (omega (arith, l))))

-- ---- the table

module _ (s : List ℕ) (b : Bytes s) (p : possible s ≡ true) where
  abbrev head : Header
  head = decode_header s

  long : length s ≡ 32
  unfolding possible
  long = eqb-true _ _ (and_left _ _ p)

  header_is : header_possible head ≡ true
  unfolding possible
  header_is = and_right (eqb (length s) 32) _ p

  ok : header_ok head ≡ true
  unfolding header_possible
  ok = and_left _ _ header_is

  counts-are : counts_possible head.geometry.slots head.counts ≡ true
  unfolding header_possible
  counts-are = and_right (header_ok head) _ header_is

  open-few : head.counts.opened ≤ head.counts.used
  unfolding counts_possible
  open-few = leb-true _ _ (and_left _ _ counts-are)

  used-few : head.counts.used ≤ head.geometry.slots
  unfolding counts_possible
  used-few = leb-true _ _ (and_left _ _ (and_right (leb head.counts.opened head.counts.used) _ counts-are))

  good-few : head.counts.good ≤ head.counts.used
  unfolding counts_possible
  good-few = leb-true _ _ (and_right (leb head.counts.used head.geometry.slots) _ (and_right (leb head.counts.opened head.counts.used) _ counts-are))

  few : head.geometry.slots ≤ 64
  few = header-slots head ok

  fits : FitHeader head
  fits = fit-header s b (omega (arith, long))

  abbrev first : ℕ
  first = get_or head.settings.groups 0 0

  first-is : listed (groups_of head) first ≡ true
  first-is = first-listed head.settings.count head.settings.groups (header-groups head ok).some fits.shape.settings.groups

  peer-form : (k : ℕ) → k < head.geometry.slots → peer_ok head.own (groups_of head) (high_sync head) (peer_at head k) ≡ true
  peer-form k l = peer-ok (groups_of head) (high_sync head) first first-is _ _ _ head.own k fits.shape.own fits.own (omega (arith, few, l))

  peer-fits : (k : ℕ) → k < 0 + head.geometry.slots → FitPeer width (peer_at head k) × StorablePeer (width_in head) (peer_at head k)
  peer-fits k m =
      let l : k < head.geometry.slots = omega (arith, m) in
      let f = fit-peer-if _ _ _ head.own first k fits.shape.settings.group0 (omega (arith, few, l)) in
      (f, peer-storable _ _ (header-room head ok) head.own (high_sync head) (peer_at head k) (shape-peer f) (peer-form k l))

  fit-witness : FitTable (witness head)
  fit-witness = record { header = fits; peers = fits-list (width_in head) (peer_at head) 0 head.geometry.slots peer-fits }

  -- what each slot adds to the counts
  counted-as : (f : Peer → Bool) (m : ℕ) → m ≤ head.geometry.slots → ((k : ℕ) → f (peer_at head k) ≡ ltb k m) → count_below (λ k. f (slot (witness head) k)) head.geometry.slots ≡ m
  counted-as f m h e =
      count-ext (λ k. f (slot (witness head) k)) (λ k. ltb k m) head.geometry.slots (λ k l. ap f (witness-slot head k l) ∙ e k) ∙ count-below m head.geometry.slots h

  witness-counts : head.counts ≡ counts_of (witness head)
  unfolding used_count open_count good_count
  witness-counts =
      let u = counted-as in_use head.counts.used used-few (used-at head) in
      let o = counted-as is_open head.counts.opened (omega (arith, open-few, used-few)) (λ k. open_is _ _ _ _ _ k (below-too _ _ k open-few)) in
      let g = counted-as is_good head.counts.good (omega (arith, good-few, used-few)) (λ k. good-is _ _ _ _ _ k (below-too _ _ k good-few)) in
      λ i. record { used = sym u i; opened = sym o i; good = sym g i }

  witness-apart : (i j : ℕ) → i < head.geometry.slots → j < head.geometry.slots → (i ≡ j → ⊥) → in_use (slot (witness head) j) ≡ true
      → belongs (slot (witness head) j).address (slot (witness head) i) ≡ false
  unfolding belongs
  witness-apart i j li lj d v = rw (witness-slot head i li, witness-slot head j lj) (go (cases (ltb i head.counts.used)))
    where
      used-j : ltb j head.counts.used ≡ true
      used-j = sym (used-at head j) ∙ sym (ap in_use (witness-slot head j lj)) ∙ v

      go : (ltb i head.counts.used ≡ true) ⊎ (ltb i head.counts.used ≡ false) → (in_use (peer_at head i) && same_address (peer_at head i).address (peer_at head j).address) ≡ false
      go (inl e) =
          let a : (peer_at head i).address ≡ address_of head.own i = address_is head i e in
          let c : (peer_at head j).address ≡ address_of head.own j = address_is head j used-j in
          let z : same_address (peer_at head i).address (peer_at head j).address ≡ false = (λ k. same_address (a k) (c k)) ∙ addresses-differ head.own i j (omega (arith, few, li)) (omega (arith, few, lj)) d in
          (λ k. used-at head i k && z k) ∙ and-false (ltb i head.counts.used)
      go (inr e) = ap (λ (b : Bool). b && same_address (peer_at head i).address (peer_at head j).address) (used-at head i ∙ e)

  witness-form : Form (witness head)
  witness-form = record {
    header = ok;
    each = λ k l. subst (λ (p : Peer). peer_ok head.own (groups_of head) (high_sync head) p ≡ true) (sym (witness-slot head k l)) (peer-form k l);
    apart = witness-apart;
    counts = witness-counts;
  }

  -- A SOUND TABLE STARTS WITH THEM
  pub possible-starts : Starts s
  unfolding encode_table
  possible-starts = record {
    table = encode_table (witness head);
    bytes = bytes-table (witness head) fit-witness;
    sound = form-sound (witness head) fit-witness (length-list (peer_at head) 0 head.geometry.slots) witness-form;
    starts = take_at (encode_header head) _ 32 (length-header head fits.shape) ∙ enc-dec-header s b (omega (arith, long)) ∙ take_all 32 s (omega (arith, long));
  }
