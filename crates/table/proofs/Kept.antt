-- The form is kept: a good record placed in a sound table leaves a sound table, and every other record as it was.
use Rattle.std.specs.Prelude.{Option, Some, None}
use mathlib.Core.Path.{◌≡◌, refl, sym, ap, ◌∙◌, subst}
use mathlib.Core.Logic.{◌⊎◌, inl, inr}
use mathlib.Core.Bool.{Bool, true, false, not, ◌||◌}
use mathlib.Core.List.{List}
use Prim.Native.Nat.{ℕ, zero, suc, ◌<◌}
use native.Mathlib.Omega.{arith}
use native.Mathlib.Decide.{ℕ_discrete, dec_lt}
use native.Mathlib.Numerals.{add-one}
use lib.ListN.{length, length-set}
use lib.Seq.{set-get_or}
use borrow.Author.Tests.{eqb-true, eq-eqb, not-true}
use Rattle.octets.specs.Octets.{num, Bytes, same_address}
use Rattle.octets.specs.Scan.{all_below, first_below}
use Rattle.octets.proofs.Scan.{clash, cases, and_left, and_right, and_both, all_true, all_of, first-none, first_more, first-ext, first-hit}
use Rattle.groups.specs.Groups.{width}
use Rattle.record.specs.declared.Peer.{Peer}
use Rattle.record.specs.declared.Counts.{Counts}
use Rattle.record.specs.Layout.{width_in, record_at, groups_of, no_peer}
use Rattle.record.proofs.Laws.{FitPeer, StorablePeer, shape-peer}
use Rattle.soundness.specs.Soundness.{header_ok, high_sync, peer_ok}
use Rattle.soundness.proofs.Laws.{header-counted}
use Rattle.soundness.proofs.Storable.{header-room, peer-storable}
use Rattle.table.specs.Table.{Table, width_of, decode_table, encode_table, slot, slots, in_use, belongs, alone, slots_ok, addresses_ok, counts_ok, sound, used_count, open_count, good_count, counts_of, with_peer, placed, recounted, finds, look, look_by}
use Rattle.table.proofs.Octets.{FitTable, after-header, decode-encode, encode-decode, length-table}
use Rattle.table.proofs.Laws.{sound-header, sound-whole, sound-addresses, sound-counts, sound-peer, sound-of, slot_same, slot-other, peers-held, found_below, counts-true}
use Rattle.table.proofs.Changed.{recounted-same}
use Rattle.table.proofs.Fit.{fit-decoded, fit-placed}

-- two records with one address: addresses are the same where their numbers are
same-sym : (a b : List ℕ) → same_address a b ≡ true → same_address b a ≡ true
unfolding same_address
same-sym a b e = eq-eqb _ _ (sym (eqb-true (num a) (num b) e))

same-trans : (a b d : List ℕ) → same_address a b ≡ true → same_address b d ≡ true → same_address a d ≡ true
unfolding same_address
same-trans a b d e f = eq-eqb _ _ (eqb-true (num a) (num b) e ∙ eqb-true (num b) (num d) f)

-- the form as facts
pub record Form (T : Table) : Type 0 where
  pub header : header_ok T.header ≡ true
  pub each : (k : ℕ) → k < slots T → peer_ok T.header.own (groups_of T.header) (high_sync T.header) (slot T k) ≡ true
  pub apart : (i j : ℕ) → i < slots T → j < slots T → (i ≡ j → ⊥) → in_use (slot T j) ≡ true → belongs (slot T j).address (slot T i) ≡ false
  pub counts : T.header.counts ≡ counts_of T

-- two records with one address
meet : (p q : Peer) → in_use p ≡ true → belongs p.address q ≡ true → (in_use q ≡ true) × (belongs q.address p ≡ true)
unfolding belongs
meet p q u e = let v = and_left (in_use q) _ e in (v, and_both (in_use p) _ u (same-sym q.address p.address (and_right (in_use q) _ e)))

is-not : (b : Bool) → b ≡ false → not b ≡ true
is-not b e = rw e

isnt : (b : Bool) → (b ≡ true → ⊥) → b ≡ false
isnt true d = absurd (d refl)
isnt false d = refl

or-second : (a b : Bool) → (not a || b) ≡ true → a ≡ true → b ≡ true
or-second true b e u = e
or-second false b e u = absurd (clash u refl)

first-empty : (f : ℕ → Bool) (n : ℕ) → ((k : ℕ) → k < n → f k ≡ false) → first_below f n ≡ None
first-empty f zero h = first-none f
first-empty f (suc n) h = subst (λ (m : ℕ). first_below f m ≡ None) (add-one n) (first_more f n (first-empty f n (λ k l. h k (omega arith))) (h n (omega arith)))

below-clear : (T : Table) → addresses_ok T ≡ true → (i j : ℕ) → i < j → j < slots T → in_use (slot T j) ≡ true → belongs (slot T j).address (slot T i) ≡ false
unfolding addresses_ok alone
below-clear T s i j h l u =
    not-true _ (all_true (λ x. not (belongs (slot T j).address (slot T x))) j (or-second (in_use (slot T j)) _ (all_true (alone T) (slots T) s j l) u) i h)

slots_apart : (T : Table) → addresses_ok T ≡ true → (i j : ℕ) → i < slots T → j < slots T → (i ≡ j → ⊥) → in_use (slot T j) ≡ true → belongs (slot T j).address (slot T i) ≡ false
slots_apart T s i j li lj d u = elim (dec_lt i j) [
  | yes h ↦ below-clear T s i j h lj u
  | no h ↦ isnt _ (λ e. let m = meet (slot T j) (slot T i) u e in clash m.1 (below-clear T s j i (omega arith) li m.0))
]

pub sound-form : (t : List ℕ) → sound t ≡ true → Form (decode_table t)
sound-form t s = record {
  header = sound-header t s;
  each = sound-peer t s;
  apart = slots_apart (decode_table t) (sound-addresses t s);
  counts = counts-true (decode_table t) (sound-counts t s);
}

alone_of : (T : Table) → Form T → (k : ℕ) → k < slots T → alone T k ≡ true
unfolding alone
alone_of T F k h = go (cases (in_use (slot T k)))
  where
    go : (in_use (slot T k) ≡ true) ⊎ (in_use (slot T k) ≡ false) → (not (in_use (slot T k)) || all_below (λ j. not (belongs (slot T k).address (slot T j))) k) ≡ true
    go (inl u) = rw u (all_of _ k (λ i l. is-not _ (F.apart i k (omega arith) h (λ e. omega arith) u)))
    go (inr u) = rw u

form-slots : (T : Table) → Form T → slots_ok T ≡ true
unfolding slots_ok
form-slots T F = all_of _ (slots T) F.each

form-addresses : (T : Table) → Form T → addresses_ok T ≡ true
unfolding addresses_ok
form-addresses T F = all_of (alone T) (slots T) (alone_of T F)

form-counts : (T : Table) → Form T → counts_ok T ≡ true
unfolding counts_ok
form-counts T F =
    and_both _ _ (eq-eqb _ _ (ap (λ (n : Counts). n.used) F.counts))
    (and_both _ _ (eq-eqb _ _ (ap (λ (n : Counts). n.opened) F.counts)) (eq-eqb _ _ (ap (λ (n : Counts). n.good) F.counts)))

whole_of : (t : List ℕ) (T : Table) → decode_table t ≡ T → length t ≡ record_at (width_in T.header) (slots T) → length t ≡ record_at (width_of t) (slots (decode_table t))
unfolding decode_table
whole_of t T d l = l ∙ ap (λ (X : Table). record_at (width_in X.header) (slots X)) (sym d)

pub form-sound : (T : Table) → FitTable T → length T.peers ≡ slots T → Form T → sound (encode_table T) ≡ true
form-sound T f n F =
    let d : decode_table (encode_table T) ≡ T = decode-encode T f in
    let l : length (encode_table T) ≡ record_at (width_in T.header) (length T.peers) = length-table T f in
    sound-of (encode_table T) (omega (arith, l, after-header (width_in T.header) (length T.peers)))
    (subst (λ (X : Table). header_ok X.header ≡ true) (sym d) F.header)
    (whole_of (encode_table T) T d (l ∙ ap (record_at (width_in T.header)) n))
    (subst (λ (X : Table). slots_ok X ≡ true) (sym d) (form-slots T F))
    (subst (λ (X : Table). addresses_ok X ≡ true) (sym d) (form-addresses T F))
    (subst (λ (X : Table). counts_ok X ≡ true) (sym d) (form-counts T F))

-- ---- a record placed

module _ (T : Table) (k : ℕ) (p : Peer) (l : k < length T.peers) where
  pub placed_same : slot (placed T k p) k ≡ p
  unfolding placed recounted slot with_peer
  placed_same = slot_same T k p l

  -- EVERY OTHER RECORD stays
  pub placed-other : (j : ℕ) → (j ≡ k → ⊥) → slot (placed T k p) j ≡ slot T j
  unfolding placed recounted slot with_peer
  placed-other j d = slot-other T k p j d

  -- THE COUNTS are true
  pub placed-counts : (placed T k p).header.counts ≡ counts_of (placed T k p)
  unfolding placed recounted used_count open_count good_count with_peer slot
  placed-counts = refl

-- a record that is alone with its address
abbrev pub Alone : Table → ℕ → Peer → Type 0
Alone T k p = (i : ℕ) → i < slots T → (i ≡ k → ⊥) → in_use p ≡ true → belongs p.address (slot T i) ≡ false

placed-apart : (T : Table) (k : ℕ) (p : Peer) → k < length T.peers → Form T → Alone T k p → (i j : ℕ) → i < slots T → j < slots T → (i ≡ j → ⊥)
    → in_use (slot (placed T k p) j) ≡ true → belongs (slot (placed T k p) j).address (slot (placed T k p) i) ≡ false
placed-apart T k p l F A i j li lj d u = elim (ℕ_discrete j k) [
  | yes e ↦
      let ej : slot (placed T k p) j ≡ p = ap (slot (placed T k p)) e ∙ placed_same T k p l in
      let ei : slot (placed T k p) i ≡ slot T i = placed-other T k p l i (λ q. d (q ∙ sym e)) in
      rw (ej, ei) (A i li (λ q. d (q ∙ sym e)) (rw ej at u))
  | no n ↦ elim (ℕ_discrete i k) [
    | yes e ↦
        let ei : slot (placed T k p) i ≡ p = ap (slot (placed T k p)) e ∙ placed_same T k p l in
        let ej : slot (placed T k p) j ≡ slot T j = placed-other T k p l j n in
        let v : in_use (slot T j) ≡ true = rw ej at u in
        rw (ej, ei) (isnt _ (λ w. let m = meet (slot T j) p v w in clash m.1 (A j lj n m.0)))
    | no m ↦
        let ei : slot (placed T k p) i ≡ slot T i = placed-other T k p l i m in
        let ej : slot (placed T k p) j ≡ slot T j = placed-other T k p l j n in
        rw (ej, ei) (F.apart i j li lj d (rw ej at u))
  ]
]

placed-header : (T : Table) (k : ℕ) (p : Peer) → header_ok (placed T k p).header ≡ header_ok T.header
unfolding placed recounted with_peer
placed-header T k p = header-counted T.header (counts_of (with_peer T k p))

placed-slots : (T : Table) (k : ℕ) (p : Peer) → slots (placed T k p) ≡ slots T
unfolding placed recounted with_peer
placed-slots T k p = refl

-- THE FORM IS KEPT
pub placed-form : (T : Table) (k : ℕ) (p : Peer) → k < length T.peers → Form T → peer_ok T.header.own (groups_of T.header) (high_sync T.header) p ≡ true → Alone T k p → Form (placed T k p)
unfolding placed recounted with_peer
placed-form T k p l F g A = record {
  header = placed-header T k p ∙ F.header;
  each = λ j h. good j (rw (placed-slots T k p) at h);
  apart = λ i j li lj. placed-apart T k p l F A i j (rw (placed-slots T k p) at li) (rw (placed-slots T k p) at lj);
  counts = placed-counts T k p l;
}
  where
    good : (j : ℕ) → j < slots T → peer_ok T.header.own (groups_of T.header) (high_sync T.header) (slot (placed T k p) j) ≡ true
    good j h = elim (ℕ_discrete j k) [
      | yes e ↦ rw (e, placed_same T k p l) g
      | no d ↦ rw (placed-other T k p l j d) (F.each j h)
    ]

peers-placed : (T : Table) (k : ℕ) (p : Peer) → length (placed T k p).peers ≡ length T.peers
unfolding placed recounted with_peer
peers-placed T k p = length-set T.peers k p

-- a good record is stored with the table's width without loss
pub good-storable : (t : List ℕ) (p : Peer) → sound t ≡ true → FitPeer width p
    → peer_ok (decode_table t).header.own (groups_of (decode_table t).header) (high_sync (decode_table t).header) p ≡ true → StorablePeer (width_in (decode_table t).header) p
good-storable t p s f g = peer-storable _ _ (header-room (decode_table t).header (sound-header t s)) _ _ p (shape-peer f) g

-- and so is soundness, for every call that places a good record
pub placed-sound : (t : List ℕ) (k : ℕ) (p : Peer) → Bytes t → sound t ≡ true → k < slots (decode_table t) → FitPeer width p
    → peer_ok (decode_table t).header.own (groups_of (decode_table t).header) (high_sync (decode_table t).header) p ≡ true → Alone (decode_table t) k p → sound (encode_table (placed (decode_table t) k p)) ≡ true
placed-sound t k p b s h f g A =
    let w : length t ≡ record_at (width_of t) (slots (decode_table t)) = sound-whole t s in
    let n : length (decode_table t).peers ≡ slots (decode_table t) = peers-held t (slots (decode_table t)) w in
    form-sound (placed (decode_table t) k p) (fit-placed (decode_table t) k p (fit-decoded t _ b w) f (good-storable t p s f g))
    (peers-placed (decode_table t) k p ∙ n ∙ sym (placed-slots (decode_table t) k p))
    (placed-form (decode_table t) k p (rw n h) (sound-form t s) g A)

-- what the table left says is what was placed
pub placed-decoded : (t : List ℕ) (k : ℕ) (p : Peer) → Bytes t → sound t ≡ true → FitPeer width p → StorablePeer (width_in (decode_table t).header) p
    → decode_table (encode_table (placed (decode_table t) k p)) ≡ placed (decode_table t) k p
placed-decoded t k p b s f g = decode-encode (placed (decode_table t) k p) (fit-placed (decode_table t) k p (fit-decoded t _ b (sound-whole t s)) f g)

-- LOAD AFTER STORE, and every other slot as it was
pub placed-loaded : (t : List ℕ) (k : ℕ) (p : Peer) → Bytes t → sound t ≡ true → k < slots (decode_table t) → FitPeer width p → StorablePeer (width_in (decode_table t).header) p
    → slot (decode_table (encode_table (placed (decode_table t) k p))) k ≡ p
placed-loaded t k p b s h f g =
    let n : length (decode_table t).peers ≡ slots (decode_table t) = peers-held t (slots (decode_table t)) (sound-whole t s) in
    ap (λ (T : Table). slot T k) (placed-decoded t k p b s f g) ∙ placed_same (decode_table t) k p (rw n h)

pub placed-others : (t : List ℕ) (k j : ℕ) (p : Peer) → Bytes t → sound t ≡ true → k < slots (decode_table t) → FitPeer width p → StorablePeer (width_in (decode_table t).header) p → (j ≡ k → ⊥)
    → slot (decode_table (encode_table (placed (decode_table t) k p))) j ≡ slot (decode_table t) j
placed-others t k j p b s h f g d =
    let n : length (decode_table t).peers ≡ slots (decode_table t) = peers-held t (slots (decode_table t)) (sound-whole t s) in
    ap (λ (T : Table). slot T j) (placed-decoded t k p b s f g) ∙ placed-other (decode_table t) k p (rw n h) j d

-- ---- by address

-- DISTINCT ADDRESSES make the answer of a search the only one
pub found-only : (T : Table) (a : List ℕ) (k i : ℕ) → Form T → finds T a ≡ Some k → i < slots T → belongs a (slot T i) ≡ true → i ≡ k
unfolding belongs
found-only T a k i F e h u = elim (ℕ_discrete i k) [
  | yes q ↦ q
  | no d ↦
      let w = found_below T a k e in
      let v = and_right (in_use (slot T k)) _ w.1 in
      let m : same_address (slot T i).address (slot T k).address ≡ true = same-trans (slot T i).address a (slot T k).address (and_right (in_use (slot T i)) _ u) (same-sym (slot T k).address a v) in
      absurd (clash (and_both (in_use (slot T i)) _ (and_left (in_use (slot T i)) _ u) m) (F.apart i k h w.0 d (and_left (in_use (slot T k)) _ w.1)))
]

finds-ext : (T : Table) (k : ℕ) (p : Peer) (b : List ℕ) → ((j : ℕ) → belongs b (slot (placed T k p) j) ≡ belongs b (slot T j)) → finds (placed T k p) b ≡ finds T b
unfolding finds
finds-ext T k p b h =
    ap (first_below (λ j. belongs b (slot (placed T k p) j))) (placed-slots T k p) ∙ first-ext (λ j. belongs b (slot (placed T k p) j)) (λ j. belongs b (slot T j)) (slots T) (λ j l. h j)

look-by : (T : Table) (k : ℕ) (p : Peer) (b : List ℕ) → k < length T.peers → belongs b (slot T k) ≡ false → (f : Option ℕ) → finds T b ≡ f → look_by (placed T k p) (finds T b) ≡ look_by T (finds T b)
unfolding look_by
look-by T k p b l n (Some j) e =
    let d : j ≡ k → ⊥ = λ q. clash (rw q at (found_below T b j e).1) n in
    rw e (placed-other T k p l j d)
look-by T k p b l n None e = rw e

-- another address finds what it found
pub look-other : (T : Table) (k : ℕ) (p : Peer) (b : List ℕ) → k < length T.peers → belongs b (slot T k) ≡ false → belongs b p ≡ false → look (placed T k p) b ≡ look T b
unfolding look
look-other T k p b l n m = ap (look_by (placed T k p)) same ∙ go (finds T b) refl
  where
    at : (j : ℕ) → belongs b (slot (placed T k p) j) ≡ belongs b (slot T j)
    at j = elim (ℕ_discrete j k) [
      | yes e ↦ ap (λ (x : ℕ). belongs b (slot (placed T k p) x)) e ∙ ap (belongs b) (placed_same T k p l) ∙ m ∙ sym n ∙ ap (λ (x : ℕ). belongs b (slot T x)) (sym e)
      | no d ↦ ap (belongs b) (placed-other T k p l j d)
    ]

    same : finds (placed T k p) b ≡ finds T b
    same = finds-ext T k p b at

    go : (f : Option ℕ) → finds T b ≡ f → look_by (placed T k p) (finds T b) ≡ look_by T (finds T b)
    go f e = look-by T k p b l n f e

-- and the address itself finds the record placed
finds-same : (T : Table) (k : ℕ) (p : Peer) (a : List ℕ) → k < length T.peers → k < slots T → ((i : ℕ) → i < slots T → (i ≡ k → ⊥) → belongs a (slot T i) ≡ false)
    → belongs a p ≡ true → Some k ≡ finds (placed T k p) a
unfolding finds
finds-same T k p a l h A u =
    first-hit (λ j. belongs a (slot (placed T k p) j)) (slots (placed T k p)) k (rw (placed-slots T k p) h)
    (first-empty _ k (λ i m. let d : i ≡ k → ⊥ = λ q. omega arith in ap (belongs a) (placed-other T k p l i d) ∙ A i (omega arith) d))
    (ap (belongs a) (placed_same T k p l) ∙ u)

pub look-same : (T : Table) (k : ℕ) (p : Peer) (a : List ℕ) → k < length T.peers → k < slots T → ((i : ℕ) → i < slots T → (i ≡ k → ⊥) → belongs a (slot T i) ≡ false)
    → belongs a p ≡ true → look (placed T k p) a ≡ p
unfolding look look_by
look-same T k p a l h A u = ap (look_by (placed T k p)) (sym (finds-same T k p a l h A u)) ∙ placed_same T k p l

-- the record that was there, placed again, leaves every octet
pub stored-own : (T : Table) (k : ℕ) → with_peer T k (slot T k) ≡ T
unfolding with_peer slot
stored-own T k = λ i. record { header = T.header; peers = set-get_or T.peers k no_peer i }

-- THE COUNTS of a sound table made true leave every octet
pub recounted-again : (t : List ℕ) → Bytes t → sound t ≡ true → encode_table (recounted (decode_table t)) ≡ t
recounted-again t b s =
    ap encode_table (recounted-same (decode_table t) (sound-form t s).counts) ∙ encode-decode t (slots (decode_table t)) b (sound-whole t s)

pub placed-again : (t : List ℕ) (k : ℕ) → Bytes t → sound t ≡ true → encode_table (placed (decode_table t) k (slot (decode_table t) k)) ≡ t
unfolding placed
placed-again t k b s = ap (λ (T : Table). encode_table (recounted T)) (stored-own (decode_table t) k) ∙ recounted-again t b s
