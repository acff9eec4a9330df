-- Laws of the table as a value: what soundness says, what the searches find, a record stored.
use mathlib.Core.Path.{◌≡◌, refl, sym, ap, ◌∙◌, subst}
use mathlib.Core.Logic.{◌⊎◌, inl, inr}
use mathlib.Core.Bool.{Bool, true, false, not, ◌&&◌, ◌||◌}
use mathlib.Core.List.{List}
use Prim.Native.Nat.{ℕ, zero, suc, ◌+◌, ◌*◌, ◌^◌, ◌≤◌, ◌<◌}
use native.Mathlib.Omega.{arith}
use native.Mathlib.Nat.{mul-le-mul}
use native.Mathlib.Decide.{ℕ_discrete, dec_lt}
use lib.Dec.{eqb, leb}
use lib.ListN.{length}
use lib.Seq.{get_or-set_same, get_or-set_other}
use borrow.Author.Tests.{eqb-true, leb-true, eq-eqb, le-leb, lt-leb, ne_eqb, not-true, not-false}
use Rattle.octets.specs.Octets.{num, same_address}
use Rattle.std.specs.Prelude.{if◌then◌else◌, Option, Some, None, Result, Ok, Err}
use Rattle.octets.specs.Scan.{all_below, count_below, first_below, last_below, bit}
use Rattle.octets.proofs.Scan.{cases, and_left, and_right, and_both, all_true, all_of, first-at, first-nothing, last-at, count-but, count-le, bit_le}
use Rattle.record.specs.declared.Peer.{Peer}
use Rattle.record.specs.declared.Counts.{Counts}
use Rattle.record.specs.declared.Header.{Header}
use Rattle.groups.specs.Groups.{width}
use Rattle.record.specs.Layout.{width_in, record_size, record_at, groups_of}
use Rattle.record.proofs.Laws.{record-below}
use Rattle.soundness.specs.Soundness.{usable, header_ok, high_sync, peer_ok}
use Rattle.soundness.proofs.Laws.{header-groups, header-high, header-count, header-slots}
use Rattle.table.specs.Table.{Table, width_of, decode_table, slot, slots, in_use, is_open, is_good, belongs, alone, slots_ok, addresses_ok, counts_ok, sound, used_count, open_count, good_count, counts_of, finds, free_slot, entry, checked, entered, entering, with_peer, standing_of, Changed, Ready, Whole, Reaches, Reached, Sized, Looked, Enters}
use Rattle.table.specs.declared.Entrance.{Entrance}
use Rattle.causes.specs.declared.Refusal.{Refusal}
use Rattle.causes.specs.declared.Refusal.TheVariants as why
use Rattle.table.specs.declared.Standing.{Standing}
use Rattle.table.proofs.Octets.{many, length-peers}

-- the counts are those of the records, place by place
pub counts-true : (T : Table) → counts_ok T ≡ true → T.header.counts ≡ counts_of T
unfolding counts_ok
counts-true T ok =
    let k₁ = and_right (eqb T.header.counts.used (used_count T)) _ ok in
    let u : T.header.counts.used ≡ used_count T = eqb-true _ _ (and_left _ _ ok) in
    let o : T.header.counts.opened ≡ open_count T = eqb-true _ _ (and_left _ _ k₁) in
    let g : T.header.counts.good ≡ good_count T = eqb-true _ _ (and_right (eqb T.header.counts.opened (open_count T)) _ k₁) in
    λ i. record { used = u i; opened = o i; good = g i }

-- what soundness says
module _ (t : List ℕ) (s : sound t ≡ true) where
  pub sound-long : 32 ≤ length t
  unfolding sound
  sound-long = leb-true _ _ (and_left _ _ s)

  after-long : (header_ok (decode_table t).header && (eqb (length t) (record_at (width_of t) (slots (decode_table t))) && (slots_ok (decode_table t) && (addresses_ok (decode_table t) && counts_ok (decode_table t))))) ≡ true
  unfolding sound
  after-long = and_right (leb 32 (length t)) _ s

  pub sound-header : header_ok (decode_table t).header ≡ true
  sound-header = and_left _ _ after-long

  after-header : (eqb (length t) (record_at (width_of t) (slots (decode_table t))) && (slots_ok (decode_table t) && (addresses_ok (decode_table t) && counts_ok (decode_table t)))) ≡ true
  after-header = and_right (header_ok (decode_table t).header) _ after-long

  pub sound-whole : length t ≡ record_at (width_of t) (slots (decode_table t))
  sound-whole = eqb-true _ _ (and_left _ _ after-header)

  after-whole : (slots_ok (decode_table t) && (addresses_ok (decode_table t) && counts_ok (decode_table t))) ≡ true
  after-whole = and_right (eqb (length t) (record_at (width_of t) (slots (decode_table t)))) _ after-header

  pub sound-slots : slots_ok (decode_table t) ≡ true
  sound-slots = and_left _ _ after-whole

  after-slots : (addresses_ok (decode_table t) && counts_ok (decode_table t)) ≡ true
  after-slots = and_right (slots_ok (decode_table t)) _ after-whole

  pub sound-addresses : addresses_ok (decode_table t) ≡ true
  sound-addresses = and_left _ _ after-slots

  pub sound-counts : counts_ok (decode_table t) ≡ true
  sound-counts = and_right (addresses_ok (decode_table t)) _ after-slots

  pub sound-small : slots (decode_table t) ≤ 64
  sound-small = header-slots (decode_table t).header sound-header

  -- A RECORD OF A SOUND TABLE has its form
  pub sound-peer : (k : ℕ) → k < slots (decode_table t) → peer_ok (decode_table t).header.own (groups_of (decode_table t).header) (high_sync (decode_table t).header) (slot (decode_table t) k) ≡ true
  unfolding slots_ok
  sound-peer k h = all_true (λ j. peer_ok (decode_table t).header.own (groups_of (decode_table t).header) (high_sync (decode_table t).header) (slot (decode_table t) j)) (slots (decode_table t)) sound-slots k h

  pub ready : (k : ℕ) → k < slots (decode_table t) → Ready t k
  ready k h = record {
    fits = omega (arith, record-below (width_of t) k (slots (decode_table t)) h, sound-whole);
    whole = sound-whole;
    below = h;
    small = sound-small;
    counts = counts-true (decode_table t) sound-counts;
  }

-- soundness from its parts
pub sound-of : (t : List ℕ) → 32 ≤ length t → header_ok (decode_table t).header ≡ true → length t ≡ record_at (width_of t) (slots (decode_table t))
    → slots_ok (decode_table t) ≡ true → addresses_ok (decode_table t) ≡ true → counts_ok (decode_table t) ≡ true → sound t ≡ true
unfolding sound
sound-of t a b d e f g = and_both _ _ (le-leb _ _ a) (and_both _ _ b (and_both _ _ (eq-eqb _ _ d) (and_both _ _ e (and_both _ _ f g))))

-- what `is_sound` shows
no-left : (a b : Bool) → a ≡ false → false ≡ (a && b)
no-left a b e = rw e

no-right : (a b : Bool) → false ≡ b → false ≡ (a && b)
no-right true b e = e
no-right false b e = refl

pub not-long : (t : List ℕ) → length t < 32 → false ≡ sound t
unfolding sound
not-long t h = no-left _ _ (lt-leb _ _ h)

not-header : (t : List ℕ) → header_ok (decode_table t).header ≡ false → false ≡ sound t
unfolding sound
not-header t e = no-right (leb 32 (length t)) _ (no-left _ _ e)

not-whole : (t : List ℕ) → (length t ≡ record_at (width_of t) (slots (decode_table t)) → ⊥) → false ≡ sound t
unfolding sound
not-whole t d = no-right (leb 32 (length t)) _ (no-right (header_ok (decode_table t).header) _ (no-left _ _ (ne_eqb _ _ d)))

body-sound : (t : List ℕ) → 32 ≤ length t → header_ok (decode_table t).header ≡ true → length t ≡ record_at (width_of t) (slots (decode_table t))
    → (slots_ok (decode_table t) && (addresses_ok (decode_table t) && counts_ok (decode_table t))) ≡ sound t
unfolding sound
body-sound t a b d = rw (le-leb _ _ a, b, eq-eqb _ _ d)

-- the same, from what the callees show
module _ (t : List ℕ) (h : Header) (e : h ≡ (decode_table t).header) where
  pub not-header-by : (ok : Bool) → ok ≡ header_ok h → not ok ≡ true → false ≡ sound t
  not-header-by ok p q = not-header t (ap header_ok (sym e) ∙ sym p ∙ not-true ok q)

  -- what the header's width and slots come to, worked out from the header handed on
  by-header : (w n : ℕ) → w ≡ width_in h → n ≡ record_at w h.geometry.slots → n ≡ record_at (width_of t) (slots (decode_table t))
  unfolding decode_table
  by-header w n ew q = q ∙ ap (λ (x : ℕ). record_at x h.geometry.slots) ew ∙ ap (λ (g : Header). record_at (width_in g) g.geometry.slots) e

  pub not-whole-by : (w n : ℕ) → w ≡ width_in h → n ≡ record_at w h.geometry.slots → (length t ≡ n → ⊥) → false ≡ sound t
  not-whole-by w n ew q d = not-whole t (λ x. d (x ∙ sym (by-header w n ew q)))

  pub whole_by : (ok : Bool) (w n : ℕ) → ok ≡ header_ok h → not ok ≡ false → w ≡ width_in h → n ≡ record_at w h.geometry.slots → length t ≡ n → Whole t h h.geometry.slots
  whole_by ok w n p q ew en l =
      let y : header_ok h ≡ true = sym p ∙ not-false ok q in
      let g = header-groups h y in
      let c : h.geometry.slots ≡ slots (decode_table t) = ap (λ (g : Header). g.geometry.slots) e in
      record {
        long = rw c (omega (arith, l, by-header w n ew en));
        header = e;
        slots = c;
        few = header-slots h y;
        some = g.some;
        most = header-count h y;
        low = header-high h y;
      }

  pub body-by : (ok r : Bool) (w n : ℕ) → 32 ≤ length t → ok ≡ header_ok h → not ok ≡ false → w ≡ width_in h → n ≡ record_at w h.geometry.slots → length t ≡ n
      → r ≡ (slots_ok (decode_table t) && (addresses_ok (decode_table t) && counts_ok (decode_table t))) → r ≡ sound t
  body-by ok r w n l p q ew en k er = er ∙ body-sound t l (ap header_ok (sym e) ∙ sym p ∙ not-false ok q) (k ∙ by-header w n ew en)

-- ---- fewer than two records in use have no address twice

count-part : (f : ℕ → Bool) (n k : ℕ) → k < n → count_below f k + bit (f k) ≤ count_below f n
unfolding count_below
count-part f zero k h = absurd (omega arith)
count-part f (suc n) k h = elim (ℕ_discrete k n) [
  | yes e ↦ rw e (omega arith)
  | no d ↦ let w = count-part f n k (omega arith) in omega (arith, w)
]

one-used : (f : ℕ → Bool) (n j k : ℕ) → j < k → k < n → count_below f n < 2 → f k ≡ true → f j ≡ false
one-used f n j k l h c e = go (cases (f j))
  where
    go : (f j ≡ true) ⊎ (f j ≡ false) → f j ≡ false
    go (inr z) = z
    go (inl z) =
        let a : bit (f j) ≡ 1 = ap bit z in
        let b : bit (f k) ≡ 1 = ap bit e in
        absurd (omega (arith, count-part f n k h, count-part f k j l, a, b, c))

few-alone : (T : Table) → used_count T < 2 → addresses_ok T ≡ true
unfolding addresses_ok alone belongs used_count
few-alone T c = all_of (alone T) (slots T) (λ k h. go k h (cases (in_use (slot T k))))
  where
    go : (k : ℕ) → k < slots T → (in_use (slot T k) ≡ true) ⊎ (in_use (slot T k) ≡ false) → (not (in_use (slot T k)) || all_below (λ j. not (in_use (slot T j) && same_address (slot T j).address (slot T k).address)) k) ≡ true
    go k h (inr z) = rw z refl
    go k h (inl z) = rw z (all_of _ k (λ j l. let y : in_use (slot T j) ≡ false = one-used (λ i. in_use (slot T i)) (slots T) j k l h c z in rw y refl))

-- what `addresses_ok` shows
pub addresses-few : (T : Table) (used : ℕ) → used < 2 → used ≡ used_count T → true ≡ addresses_ok T
addresses-few T used l e = sym (few-alone T (omega (arith, l, e)))

pub addresses-all : (T : Table) (n : ℕ) (r : Bool) → n ≡ slots T → r ≡ all_below (alone T) n → r ≡ addresses_ok T
unfolding addresses_ok
addresses-all T n r e q = rw (q, e) refl

forms-law : (t own gs : List ℕ) (h : Header) (n high : ℕ) (s : Bool) → Whole t h n → own ≡ h.own → gs ≡ groups_of h → high ≡ high_sync h
    → s ≡ all_below (λ k. peer_ok own gs high (slot (decode_table t) k)) n → s ≡ slots_ok (decode_table t)
unfolding slots_ok
forms-law t own gs h n high s w eo eg eh es =
    let n' : n ≡ slots (decode_table t) = w.slots in
    let o : own ≡ (decode_table t).header.own = eo ∙ ap (λ (g : Header). g.own) w.header in
    let g : gs ≡ groups_of (decode_table t).header = eg ∙ ap groups_of w.header in
    let x : high ≡ high_sync (decode_table t).header = eh ∙ ap (λ (g : Header). high_sync g) w.header in
    rw (es, o, g, x, n') refl

counted-right : (t : List ℕ) (h : Header) (n : ℕ) → Whole t h n → counts_ok (decode_table t) ≡ true → h.counts.used ≡ used_count (decode_table t)
unfolding counts_ok
counted-right t h n w z = ap (λ (g : Header). g.counts.used) w.header ∙ eqb-true _ _ (and_left _ _ z)

pub and-false : (x : Bool) → (x && false) ≡ false
and-false true = refl
and-false false = refl

-- what `body_ok` shows: where the count is wrong, the addresses do not tell
pub body-law : (t own gs : List ℕ) (h : Header) (n high : ℕ) (s a c : Bool) → Whole t h n → own ≡ h.own → gs ≡ groups_of h → high ≡ high_sync h
    → s ≡ all_below (λ k. peer_ok own gs high (slot (decode_table t) k)) n → (h.counts.used ≡ used_count (decode_table t) → a ≡ addresses_ok (decode_table t)) → c ≡ counts_ok (decode_table t)
    → (s && (a && c)) ≡ (slots_ok (decode_table t) && (addresses_ok (decode_table t) && counts_ok (decode_table t)))
body-law t own gs h n high s a c w eo eg eh es ea ec = ap (λ (x : Bool). x && (a && c)) slots-are ∙ ap (λ (x : Bool). slots_ok (decode_table t) && x) (go (cases (counts_ok (decode_table t))))
  where
    slots-are : s ≡ slots_ok (decode_table t)
    slots-are = forms-law t own gs h n high s w eo eg eh es

    go : (counts_ok (decode_table t) ≡ true) ⊎ (counts_ok (decode_table t) ≡ false) → (a && c) ≡ (addresses_ok (decode_table t) && counts_ok (decode_table t))
    go (inl z) = rw (ec, ea (counted-right t h n w z)) refl
    go (inr z) = rw (ec, z) (and-false a ∙ sym (and-false (addresses_ok (decode_table t))))

-- what `find`, `free_slot` and `enter` show
pub find-law : (t : List ℕ) (n : ℕ) (a : List ℕ) (x : ℕ) (r : Option ℕ) → n ≡ slots (decode_table t) → x ≡ num a
    → r ≡ first_below (λ k. in_use (slot (decode_table t) k) && eqb (num (slot (decode_table t) k).address) x) n → r ≡ finds (decode_table t) a
unfolding finds belongs same_address
find-law t n a x r e p q = q ∙ rw (e, p) refl

pub free_law : (t : List ℕ) (n : ℕ) (r : Option ℕ) → n ≡ slots (decode_table t) → r ≡ last_below (λ k. eqb (slot (decode_table t) k).used 0) n → r ≡ free_slot (decode_table t)
unfolding free_slot
free_law t n r e q = rw e at q

-- ---- a record stored

module _ (T : Table) (k : ℕ) (p : Peer) where
  pub slot_same : k < length T.peers → slot (with_peer T k p) k ≡ p
  unfolding slot with_peer
  slot_same h = get_or-set_same T.peers k p _ h

  pub slot-other : (j : ℕ) → (j ≡ k → ⊥) → slot (with_peer T k p) j ≡ slot T j
  unfolding slot with_peer
  slot-other j d = get_or-set_other T.peers k j p _ d

  -- a count after the record is stored
  count-stored : (f : Peer → Bool) → k < slots T → k < length T.peers
      → count_below (λ j. f (slot T j)) (slots T) + bit (f p) ≡ count_below (λ j. f (slot (with_peer T k p) j)) (slots T) + bit (f (slot T k))
  count-stored f h l =
      ap (λ (q : Peer). count_below (λ j. f (slot T j)) (slots T) + bit (f q)) (sym (slot_same l))
      ∙ count-but (λ j. f (slot T j)) (λ j. f (slot (with_peer T k p) j)) (slots T) k h (λ j m d. ap f (sym (slot-other j d)))

  pub used-stored : k < slots T → k < length T.peers → used_count T + bit (in_use p) ≡ used_count (with_peer T k p) + bit (in_use (slot T k))
  unfolding used_count with_peer
  used-stored h l = count-stored in_use h l

  pub open-stored : k < slots T → k < length T.peers → open_count T + bit (is_open p) ≡ open_count (with_peer T k p) + bit (is_open (slot T k))
  unfolding open_count with_peer
  open-stored h l = count-stored is_open h l

  pub good-stored : k < slots T → k < length T.peers → good_count T + bit (is_good p) ≡ good_count (with_peer T k p) + bit (is_good (slot T k))
  unfolding good_count with_peer
  good-stored h l = count-stored is_good h l

-- the width that a header's form has is the table's
pub width-told : (t : List ℕ) (h : Header) (w : ℕ) → h ≡ (decode_table t).header → w ≡ width_in h → w ≡ width_of t
unfolding decode_table
width-told t h w e q = q ∙ ap width_in e

-- the number of records that the octets hold
pub peers-held : (t : List ℕ) (n : ℕ) → length t ≡ record_at (width_of t) n → length (decode_table t).peers ≡ n
unfolding decode_table
peers-held t n h = length-peers (width_of t) _ _ ∙ many (width_of t) n (length t) h

-- what `standing_of` shows
pub standing-law : (T : Table) (k : ℕ) (u r s : Bool) → u ≡ in_use (slot T k) → r ≡ is_open (slot T k) → s ≡ is_good (slot T k)
    → ◌≡◌ {A = Standing} (record { used = u; opened = r; good = s }) (standing_of (slot T k))
standing-law T k u r s e q v = λ i. record { used = e i; opened = q i; good = v i }

-- what `counts_after` shows: one slot's share is in the count, and the count of the others leaves room for it
count-has : (f : ℕ → Bool) (n i : ℕ) → i < n → (bit (f i) ≤ count_below f n) × (count_below f n + 1 ≤ n + bit (f i))
unfolding count_below
count-has f zero i h = absurd (omega arith)
count-has f (suc n) i h = elim (ℕ_discrete i n) [
  | yes e ↦ rw e (omega arith, omega (arith, count-le f n))
  | no d ↦ let w = count-has f n i (omega arith) in (omega (arith, w.0), omega (arith, w.1, bit_le (f n)))
]

share : (f : ℕ → Bool) (n k x : ℕ) (was : Bool) → k < n → n ≤ 64 → x + bit (f k) ≡ count_below f n + bit was → (bit was ≤ x) × (x ≤ 64)
share f n k x was h l e = let w = count-has f n k h in (omega (arith, w.0), omega (arith, w.1, bit_le was))

balance : (r x u : ℕ) (was is : Bool) → r + bit was ≡ x + bit is → x + bit is ≡ u + bit was → r ≡ u
balance r x u was is p q = omega arith

slot-below : (W k n : ℕ) → record_at W k + record_size W ≤ record_at W n → k < n
slot-below W k n h = elim (dec_lt k n) [ yes l ↦ l | no l ↦ absurd (go l (ℕ_discrete k n)) ]
  where
    go : (k < n → ⊥) → Dec (k ≡ n) → ⊥
    go l (yes e) = let z : record_at W k ≡ record_at W n = ap (record_at W) e in omega (arith, z, h)
    go l (no d) = let m : n < k = omega (arith, l, d) in omega (arith, h, record-below W n k m)

module _ (t : List ℕ) (k : ℕ) (h : Header) (was : Standing) (C : Changed t k h was) where
  below : k < slots (decode_table t)
  below = slot-below (width_of t) k (slots (decode_table t)) (omega (arith, C.fits, C.whole))

  used-now : h.counts.used + bit (in_use (slot (decode_table t) k)) ≡ used_count (decode_table t) + bit was.used
  used-now = ap (λ (g : Header). g.counts.used + bit (in_use (slot (decode_table t) k))) C.header ∙ C.used

  open-now : h.counts.opened + bit (is_open (slot (decode_table t) k)) ≡ open_count (decode_table t) + bit was.opened
  open-now = ap (λ (g : Header). g.counts.opened + bit (is_open (slot (decode_table t) k))) C.header ∙ C.opened

  good-now : h.counts.good + bit (is_good (slot (decode_table t) k)) ≡ good_count (decode_table t) + bit was.good
  good-now = ap (λ (g : Header). g.counts.good + bit (is_good (slot (decode_table t) k))) C.header ∙ C.good

  pub share-used : (bit was.used ≤ h.counts.used) × (h.counts.used ≤ 64)
  unfolding used_count
  share-used = share (λ j. in_use (slot (decode_table t) j)) (slots (decode_table t)) k h.counts.used was.used below C.small used-now

  pub share-open : (bit was.opened ≤ h.counts.opened) × (h.counts.opened ≤ 64)
  unfolding open_count
  share-open = share (λ j. is_open (slot (decode_table t) j)) (slots (decode_table t)) k h.counts.opened was.opened below C.small open-now

  pub share-good : (bit was.good ≤ h.counts.good) × (h.counts.good ≤ 64)
  unfolding good_count
  share-good = share (λ j. is_good (slot (decode_table t) j)) (slots (decode_table t)) k h.counts.good was.good below C.small good-now

  pub after-used : (is : Bool) (r : ℕ) → is ≡ in_use (slot (decode_table t) k) → r + bit was.used ≡ h.counts.used + bit is → r ≡ used_count (decode_table t)
  after-used is r q w = balance r h.counts.used _ was.used is w (ap (λ (b : Bool). h.counts.used + bit b) q ∙ used-now)

  pub after_open : (is : Bool) (r : ℕ) → is ≡ is_open (slot (decode_table t) k) → r + bit was.opened ≡ h.counts.opened + bit is → r ≡ open_count (decode_table t)
  after_open is r q w = balance r h.counts.opened _ was.opened is w (ap (λ (b : Bool). h.counts.opened + bit b) q ∙ open-now)

  pub after-good : (is : Bool) (r : ℕ) → is ≡ is_good (slot (decode_table t) k) → r + bit was.good ≡ h.counts.good + bit is → r ≡ good_count (decode_table t)
  after-good is r q w = balance r h.counts.good _ was.good is w (ap (λ (b : Bool). h.counts.good + bit b) q ∙ good-now)

-- the slot of a changed record, with the width of the header handed on
pub changed-reached : (t : List ℕ) (k : ℕ) (h : Header) (was : Standing) (w : ℕ) → Changed t k h was → w ≡ width_in h → w ≤ width → Reached t w k
changed-reached t k h was w C e m =
    let z : w ≡ width_of t = width-told t h w C.header e in
    record { told = z; most = m; long = subst (λ (W : ℕ). record_at W k + record_size W ≤ length t) (sym z) C.fits }

pub after-law : (T : Table) (u o g : ℕ) → u ≡ used_count T → o ≡ open_count T → g ≡ good_count T → ◌≡◌ {A = Counts} (record { used = u; opened = o; good = g }) (counts_of T)
after-law T u o g eu eo eg = λ i. record { used = eu i; opened = eo i; good = eg i }

-- what `slots_of` shows
pub slots-law : (t : List ℕ) (h : Header) → sound t ≡ true → h ≡ (decode_table t).header → (h.geometry.slots ≡ slots (decode_table t)) × (record_at (width_of t) h.geometry.slots ≡ length t)
slots-law t h s e = let g : h.geometry.slots ≡ slots (decode_table t) = ap (λ (g : Header). g.geometry.slots) e in (g, rw g (sym (sound-whole t s)))

-- where the slots of any header end: a number of 32 bits
pub record-bound : (W n : ℕ) → W ≤ width → n < 65536 → record_at W n < 2 ^ 32
unfolding record_at
record-bound W n h l =
    let a : record_size W ≤ 1080 = omega arith in
    let b : n ≤ 65536 = omega arith in
    let p : record_size W * n ≤ 1080 * 65536 = mul-le-mul a b in
    omega (arith, p)

-- the slots below n, and each of them
pub whole-reaches : (t : List ℕ) (h : Header) (n w : ℕ) → Whole t h n → w ≡ width_in h → w ≤ width → Reaches t w n
whole-reaches t h n w O e m =
    let z : w ≡ width_of t = width-told t h w O.header e in
    record { told = z; most = m; long = subst (λ (W : ℕ). record_at W n ≤ length t) (sym z) O.long }

pub reach : (t : List ℕ) (w n k : ℕ) → Reaches t w n → k < n → Reached t w k
reach t w n k R h = record { told = R.told; most = R.most; long = omega (arith, record-below w k n h, R.long) }

pub sized : (t : List ℕ) (h : Header) (w : ℕ) → sound t ≡ true → h ≡ (decode_table t).header → w ≡ width_in h → w ≤ width → Sized t w h.geometry.slots
sized t h w s e q m =
    let v = slots-law t h s e in
    let z : w ≡ width_of t = width-told t h w e q in
    record { number = v.0; reaches = record { told = z; most = m; long = subst (λ (W : ℕ). record_at W h.geometry.slots ≤ length t) (sym z) (omega (arith, v.1)) } }

-- a slot of a sound table
pub reached : (t : List ℕ) (h : Header) (w k : ℕ) → sound t ≡ true → h ≡ (decode_table t).header → w ≡ width_in h → w ≤ width → k < slots (decode_table t) → Reached t w k
reached t h w k s e q m l = let z = sized t h w s e q m in reach t w h.geometry.slots k z.reaches (rw z.number l)

-- from a negated test
pub sound-by : (t : List ℕ) (b : Bool) → b ≡ sound t → not b ≡ false → sound t ≡ true
sound-by t b e q = sym e ∙ not-false b q

-- what `entry` says
module _ where
  abbrev went : Bool → Bool → Option ℕ → Result (Option ℕ) Refusal
  went b u f = if not b then Err why.Unsound else if not u then Err why.Address else Ok f

  went-on : (b u : Bool) (f g : Option ℕ) → went b u f ≡ Ok g → (b ≡ true) × ((u ≡ true) × (f ≡ g))
  went-on false u f g e = let z : ◌≡◌ {A = ℕ} 0 1 = cc in absurd (omega arith)
  went-on true false f g e = let z : ◌≡◌ {A = ℕ} 0 1 = cc in absurd (omega arith)
  went-on true true f g e = let q : f ≡ g = cc in (refl, (refl, q))

pub entry-found : (t a : List ℕ) (f : Option ℕ) → entry t a ≡ Ok f → (sound t ≡ true) × ((usable (decode_table t).header.own a ≡ true) × (finds (decode_table t) a ≡ f))
unfolding entry
entry-found t a f e = went-on (sound t) (usable (decode_table t).header.own a) (finds (decode_table t) a) f e

-- ---- what a look at the whole table found

pub checked-whole : (t : List ℕ) (b : Bool) (h : Header) → b ≡ sound t → not b ≡ false → h ≡ (decode_table t).header → Ok h ≡ checked t
unfolding checked
checked-whole t b h e q g = rw (sym e ∙ not-false b q, g) refl

pub checked-unsound : (t : List ℕ) (b : Bool) → b ≡ sound t → not b ≡ true → Err why.Unsound ≡ checked t
unfolding checked
checked-unsound t b e q = rw (sym e ∙ not-true b q) refl

-- what the test came to
pub looked : (t : List ℕ) (h : Header) → checked t ≡ Ok h → Looked t h
unfolding checked
looked t h e = go (sound t) refl e
  where
    go : (b : Bool) → sound t ≡ b → (if b then Ok (decode_table t).header else Err why.Unsound) ≡ Ok h → Looked t h
    go true s q = let z : (decode_table t).header ≡ h = cc in record { whole = s; header = sym z }
    go false s q = let z : ◌≡◌ {A = ℕ} 0 1 = cc in absurd (omega arith)

pub unsound : (t : List ℕ) (c : Refusal) → checked t ≡ Err c → (sound t ≡ false) × (c ≡ why.Unsound)
unfolding checked
unsound t c e = go (sound t) refl e
  where
    go : (b : Bool) → sound t ≡ b → (if b then Ok (decode_table t).header else Err why.Unsound) ≡ Err c → (sound t ≡ false) × (c ≡ why.Unsound)
    go true s q = let z : ◌≡◌ {A = ℕ} 0 1 = cc in absurd (omega arith)
    go false s q = let z : why.Unsound ≡ c = cc in (s, sym z)

module _ (t : List ℕ) (h : Header) (L : Looked t h) where
  pub looked-own : h.own ≡ (decode_table t).header.own
  looked-own = ap (λ (g : Header). g.own) L.header

  pub looked-sized : (w : ℕ) → w ≡ width_in h → w ≤ width → Sized t w h.geometry.slots
  looked-sized w e m = sized t h w L.whole L.header e m

-- ---- what an address comes to

module _ (t a : List ℕ) where
  pub entering-refused : (c : Refusal) → checked t ≡ Err c → Err c ≡ entering t a
  unfolding entering entry
  entering-refused c e = let u = unsound t c e in rw (u.0, u.1) refl

  pub entering-unusable : (h : Header) (u : Bool) → Looked t h → u ≡ usable h.own a → not u ≡ true → Err why.Address ≡ entering t a
  unfolding entering entry
  entering-unusable h u L e q =
      let z : usable (decode_table t).header.own a ≡ false = ap (λ (o : List ℕ). usable o a) (sym (looked-own t h L)) ∙ sym e ∙ not-true u q in
      rw (L.whole, z) refl

  pub entering-found : (h : Header) (u : Bool) (f : Option ℕ) → Looked t h → u ≡ usable h.own a → not u ≡ false → f ≡ finds (decode_table t) a
      → Ok (record { header = h; slot = f }) ≡ entering t a
  unfolding entering entry
  entering-found h u f L e q g =
      let z : usable (decode_table t).header.own a ≡ true = ap (λ (o : List ℕ). usable o a) (sym (looked-own t h L)) ∙ sym e ∙ not-false u q in
      rw (L.whole, z, ← g, ← L.header) refl

-- what `enter` found
pub enters : (t a : List ℕ) (e : Entrance) → entering t a ≡ Ok e → Enters e t a
unfolding entering
enters t a e q = go (entry t a) refl q
  where
    go : (x : Result (Option ℕ) Refusal) → entry t a ≡ x → entered (decode_table t).header x ≡ Ok e → Enters e t a
    go (Err c) s q = let z : ◌≡◌ {A = ℕ} 0 1 = cc in absurd (omega arith)
    go (Ok f) s q =
        let z : record { header = (decode_table t).header; slot = f } ≡ e = cc in
        record {
          entry = s ∙ ap (λ (x : Entrance). Ok x.slot) z;
          looked = record { whole = (entry-found t a f s).0; header = sym (ap (λ (x : Entrance). x.header) z) };
        }

pub enters-refused : (t a : List ℕ) (c : Refusal) → entering t a ≡ Err c → entry t a ≡ Err c
unfolding entering
enters-refused t a c q = go (entry t a) refl q
  where
    go : (x : Result (Option ℕ) Refusal) → entry t a ≡ x → entered (decode_table t).header x ≡ Err c → entry t a ≡ Err c
    go (Err d) s q = let z : d ≡ c = cc in s ∙ ap Err z
    go (Ok f) s q = let z : ◌≡◌ {A = ℕ} 0 1 = cc in absurd (omega arith)

pub found_below : (T : Table) (a : List ℕ) (k : ℕ) → finds T a ≡ Some k → (k < slots T) × (belongs a (slot T k) ≡ true)
unfolding finds
found_below T a k e = first-at _ (slots T) k e

pub free-below-law : (T : Table) (k : ℕ) → free_slot T ≡ Some k → (k < slots T) × (eqb (slot T k).used 0 ≡ true)
unfolding free_slot
free-below-law T k e = last-at _ (slots T) k e

pub entry_ready : (t a : List ℕ) (k : ℕ) → entry t a ≡ Ok (Some k) → Ready t k
entry_ready t a k e = let w = entry-found t a (Some k) e in ready t w.0 k (found_below (decode_table t) a k w.1.1).0

pub none-holds : (T : Table) (a : List ℕ) → finds T a ≡ None → (i : ℕ) → i < slots T → belongs a (slot T i) ≡ false
unfolding finds
none-holds T a e i h = first-nothing (λ k. belongs a (slot T k)) (slots T) e i h
