-- How many good links: what a fill leaves; and a sound table starts with 32 octets exactly where they are possible.
use Rattle.std.specs.Prelude.{Ok, Err}
use mathlib.Core.Path.{◌≡◌, refl, sym, ap, ◌∙◌}
use mathlib.Core.Logic.{◌⊎◌, inl, inr}
use mathlib.Core.Bool.{Bool, true, false, not, ◌&&◌}
use mathlib.Core.List.{List, [], ◌∷◌, ◌++◌}
use Prim.Native.Nat.{ℕ, zero, suc, ◌≤◌, ◌<◌}
use native.Mathlib.Omega.{arith}
use lib.Dec.{eqb, leb, lit<}
use lib.ListN.{length, take, drop, length-append, length-drop, take-append-drop}
use lib.Seq.{take_at, drop_at}
use native.Mathlib.Decide.{dec_lt}
use borrow.Author.Tests.{eqb-true, leb-true, eq-eqb, le-leb, lt-leb, not-true, not-false}
use Rattle.causes.specs.declared.Refusal.TheVariants as why
use Rattle.causes.specs.Causes.{passes}
use Rattle.octets.specs.Octets.{Bytes, num, oct, part, put}
use Rattle.octets.specs.Scan.{count_below}
use Rattle.octets.proofs.Laws.{length-put, length-oct, oct-part, put-part}
use Rattle.octets.proofs.Scan.{clash, cases, and_left, and_right, and_both, count-le}
use Rattle.groups.specs.Groups.{width}
use Rattle.record.specs.declared.Counts.{Counts}
use Rattle.record.specs.declared.Header.{Header}
use Rattle.record.specs.Layout.{encode_header, decode_header, header_of, header_widths, counted, width_in, record_at}
use Rattle.record.specs.Codec.{cut}
use Rattle.record.proofs.Laws.{ShapeHeader, fit-header, enc-dec-header, dec-enc-header, length-header, header-front, good-put}
use Rattle.table.specs.Table.{Table, width_of, decode_table, slots, slot, is_good, good_count, sound, Reaches}
use Rattle.table.proofs.Laws.{sound-long, sound-small, sound-whole, not-long, width-told}
use Rattle.table.proofs.Kept.{sound-form}
use Rattle.good_links.specs.GoodLinks.{countable, filled, fills}

-- fewer than 32 octets with two of them put stay fewer
take-most : (n : ℕ) (s : List ℕ) → length (take n s) ≤ n
take-most zero s = omega arith
take-most (suc n) [] = omega arith
take-most (suc n) (x ∷ s) = let w = take-most n s in omega (arith, w)

short-put : (t v : List ℕ) → length v ≡ 2 → length t < 32 → length (put t 12 v) < 32
unfolding put
short-put t v e h = simp length-append (rw (e, length-drop 14 t) (omega (arith, take-most 12 t, h)))

-- ---- what `fill_good` shows

-- what a fill leaves, by whether the filled octets are a sound table
kept : (t : List ℕ) → true ≡ sound (filled t) → filled t ≡ fills t
unfolding fills
kept t e = rw (← e) refl

unfilled : (t : List ℕ) → false ≡ sound (filled t) → t ≡ fills t
unfolding fills
unfilled t e = rw (← e)

-- the header with another count of good links
abbrev pub with_good : Header → ℕ → Header
with_good h n = counted h (record { used = h.counts.used; opened = h.counts.opened; good = n })

-- THE COUNT PUT INTO THE OCTETS is the other count in the header, and all else as it was
module _ (t : List ℕ) (b : Bytes t) (l : 32 ≤ length t) (n : ℕ) (small : n < 65536) where
  shape : ShapeHeader (with_good (decode_header t) n)
  shape =
      let f = (fit-header t b l).shape in
      record {
        geometry = f.geometry;
        counts = record { used = f.counts.used; opened = f.counts.opened; good = small };
        spare = f.spare;
        own = f.own;
        settings = f.settings;
      }

  with-good-octets : put t 12 (oct 2 n) ≡ encode_header (with_good (decode_header t) n) ++ drop 32 t
  with-good-octets =
      let q : t ≡ encode_header (decode_header t) ++ drop 32 t = sym (take-append-drop 32 t) ∙ ap (λ (x : List ℕ). x ++ drop 32 t) (sym (enc-dec-header t b l)) in
      ap (λ (x : List ℕ). put x 12 (oct 2 n)) q ∙ good-put (decode_header t) (drop 32 t) n

  with-good-header : decode_header (put t 12 (oct 2 n)) ≡ with_good (decode_header t) n
  unfolding part
  with-good-header =
      sym (header-front (put t 12 (oct 2 n)))
      ∙ ap decode_header (ap (take 32) with-good-octets ∙ take_at (encode_header (with_good (decode_header t) n)) (drop 32 t) 32 (length-header _ shape))
      ∙ dec-enc-header (with_good (decode_header t) n) shape

  with-good-records : drop 32 (put t 12 (oct 2 n)) ≡ drop 32 t
  with-good-records = ap (drop 32) with-good-octets ∙ drop_at (encode_header (with_good (decode_header t) n)) (drop 32 t) 32 (length-header _ shape)

  with-good-length : length (put t 12 (oct 2 n)) ≡ length t
  with-good-length = length-put t 12 (oct 2 n) (omega (arith, length-oct 2 n, l))

  pub with-good-table : decode_table (put t 12 (oct 2 n)) ≡ record { header = with_good (decode_table t).header n; peers = (decode_table t).peers }
  unfolding decode_table
  with-good-table = rw (with-good-length, with-good-header, with-good-records) refl

-- of two counts put one after the other the second stands
good-twice : (t : List ℕ) (b : Bytes t) (l : 32 ≤ length t) (m n : ℕ) → m < 65536 → n < 65536 → put (put t 12 (oct 2 m)) 12 (oct 2 n) ≡ put t 12 (oct 2 n)
good-twice t b l m n sm sn =
    ap (λ (x : List ℕ). put x 12 (oct 2 n)) (with-good-octets t b l m sm) ∙ good-put (with_good (decode_header t) m) (drop 32 t) n ∙ sym (with-good-octets t b l n sn)

good-small : (t : List ℕ) → Bytes t → 32 ≤ length t → good_count (decode_table t) < 65536
unfolding good_count decode_table
good-small t b l = omega (arith, count-le (λ k. is_good (slot (decode_table t) k)) (slots (decode_table t)), (fit-header t b l).shape.geometry.slots)

module _ (t : List ℕ) (b : Bytes t) (l : 32 ≤ length t) where
  abbrev good : ℕ
  good = good_count (decode_table t)

  filled-length : length (filled t) ≡ length t
  unfolding filled
  filled-length = with-good-length t b l good (good-small t b l)

  -- A FILLED TABLE says the same but for the count
  pub filled-table : decode_table (filled t) ≡ record { header = with_good (decode_table t).header good; peers = (decode_table t).peers }
  unfolding filled
  filled-table = with-good-table t b l good (good-small t b l)

-- a filled table has as many octets, and its header as many slots
filled-slots : (t : List ℕ) (b : Bytes t) (l : 32 ≤ length t) → slots (decode_table (filled t)) ≡ slots (decode_table t)
filled-slots t b l = ap (λ (T : Table). slots T) (filled-table t b l)

filled-width : (t : List ℕ) (b : Bytes t) (l : 32 ≤ length t) → width_of (filled t) ≡ width_of t
unfolding decode_table
filled-width t b l = ap (λ (T : Table). width_in T.header) (filled-table t b l)

-- fewer than 32 octets stay so
filled-short : (t : List ℕ) → length t < 32 → false ≡ sound (filled t)
unfolding filled
filled-short t h = not-long (put t 12 (oct 2 (good_count (decode_table t)))) (short-put t (oct 2 (good_count (decode_table t))) (length-oct 2 _) h)

-- where the records cannot be counted, no count makes the table sound
sound-countable : (t : List ℕ) → Bytes t → sound (filled t) ≡ true → countable t ≡ true
unfolding countable
sound-countable t b s = elim (dec_lt (length t) 32) [
  | yes h ↦ absurd (clash s (sym (filled-short t h)))
  | no h ↦
      let l : 32 ≤ length t = omega (arith, h) in
      let n = filled-slots t b l in
      let few : slots (decode_table t) ≤ 64 = omega (arith, n, sound-small (filled t) s) in
      let whole : length t ≡ record_at (width_of t) (slots (decode_table t)) = sym (filled-length t b l) ∙ sound-whole (filled t) s ∙ (λ i. record_at (filled-width t b l i) (n i)) in
      and_both _ _ (le-leb _ _ l) (and_both _ _ (le-leb _ _ few) (eq-eqb _ _ whole))
]

-- what `is_countable` shows
pub uncounted-short : (t : List ℕ) → length t < 32 → false ≡ countable t
unfolding countable
uncounted-short t h = rw (lt-leb 32 (length t) h)

pub countable-by : (t : List ℕ) (h : Header) (w n : ℕ) → 32 ≤ length t → h ≡ (decode_table t).header → w ≡ width_in h → n ≡ record_at w h.geometry.slots
    → (leb h.geometry.slots 64 && eqb (length t) n) ≡ countable t
unfolding countable decode_table
countable-by t h w n l e ew en =
    let d : n ≡ record_at (width_in h) h.geometry.slots = en ∙ ap (λ (x : ℕ). record_at x h.geometry.slots) ew in
    ap (λ (x : ℕ). leb h.geometry.slots 64 && eqb (length t) x) d
    ∙ ap (λ (g : Header). leb g.geometry.slots 64 && eqb (length t) (record_at (width_in g) g.geometry.slots)) e
    ∙ sym (rw (le-leb 32 (length t) l))

-- what `fill_good` shows: where nothing can be counted
pub fill-uncounted : (t : List ℕ) (r : Bool) → Bytes t → r ≡ countable t → not r ≡ true → (Err why.Unsound ≡ passes (sound (filled t)) why.Unsound) × (t ≡ fills t)
fill-uncounted t r b e q = go (cases (sound (filled t)))
  where
    go : (sound (filled t) ≡ true) ⊎ (sound (filled t) ≡ false) → (Err why.Unsound ≡ passes (sound (filled t)) why.Unsound) × (t ≡ fills t)
    go (inl s) = absurd (clash (e ∙ sound-countable t b s) (not-true r q))
    go (inr s) = (rw s refl, unfilled t (sym s))

-- and where it can
module _ (t : List ℕ) (r : Bool) (e : r ≡ countable t) (q : not r ≡ false) where
  so : countable t ≡ true
  so = sym e ∙ not-false r q

  pub countable-long : 32 ≤ length t
  unfolding countable
  countable-long = leb-true _ _ (and_left _ _ so)

  countable-few : slots (decode_table t) ≤ 64
  unfolding countable
  countable-few = leb-true _ _ (and_left _ _ (and_right (leb 32 (length t)) _ so))

  countable-whole : length t ≡ record_at (width_of t) (slots (decode_table t))
  unfolding countable
  countable-whole = eqb-true _ _ (and_right (leb (slots (decode_table t)) 64) _ (and_right (leb 32 (length t)) _ so))

  pub countable-reaches : (h : Header) (w : ℕ) → h ≡ (decode_table t).header → w ≡ width_in h → w ≤ width → Reaches t w h.geometry.slots × (h.geometry.slots ≤ 64)
  countable-reaches h w eh ew m =
      let z : w ≡ width_of t = width-told t h w eh ew in
      let c : h.geometry.slots ≡ slots (decode_table t) = ap (λ (g : Header). g.geometry.slots) eh in
      let d : record_at w h.geometry.slots ≡ record_at (width_of t) (slots (decode_table t)) = (λ i. record_at (z i) (c i)) in
      (record { told = z; most = m; long = omega (arith, d, countable-whole) }, rw c countable-few)

  pub counted-long : (u : List ℕ) (n : ℕ) → u ≡ put t 12 (oct 2 n) → 32 ≤ length u
  counted-long u n eu = let m = length-put t 12 (oct 2 n) (omega (arith, length-oct 2 n, countable-long)) in rw eu (omega (arith, m, countable-long))

  -- the octets with the count are the filled ones
  pub fill-counted : (u : List ℕ) (h : Header) (n : ℕ) → h ≡ (decode_table t).header → n ≡ count_below (λ k. is_good (slot (decode_table t) k)) h.geometry.slots → u ≡ put t 12 (oct 2 n) → u ≡ filled t
  unfolding filled good_count
  fill-counted u h n eh en eu =
      eu ∙ ap (λ (m : ℕ). put t 12 (oct 2 m)) (en ∙ ap (λ (g : Header). count_below (λ k. is_good (slot (decode_table t) k)) g.geometry.slots) eh)

  -- and with the old count again they are the old ones
  fill-undone : (u v : List ℕ) (h : Header) → Bytes t → h ≡ (decode_table t).header → u ≡ filled t → v ≡ put u 12 (oct 2 h.counts.good) → v ≡ t
  unfolding filled decode_table decode_header header_of header_widths cut
  fill-undone u v h b eh eu ev =
      let o : h.counts.good ≡ num (part t 12 2) = ap (λ (g : Header). g.counts.good) eh in
      let l = countable-long in
      ev ∙ (λ i. put (eu i) 12 (oct 2 (o i)))
      ∙ good-twice t b l (good_count (decode_table t)) (num (part t 12 2)) (good-small t b l) (fit-header t b l).shape.counts.good
      ∙ ap (put t 12) (oct-part t 12 2 b (omega (arith, l))) ∙ put-part t 12 2 (omega (arith, l))

  pub fill-kept : (u : List ℕ) (b : Bool) → u ≡ filled t → b ≡ sound u → not b ≡ false → (Ok tt ≡ passes (sound (filled t)) why.Unsound) × (u ≡ fills t)
  fill-kept u b eu eb z =
      let s : true ≡ sound (filled t) = sym (not-false b z) ∙ eb ∙ ap sound eu in
      (rw (← s) refl, eu ∙ kept t s)

  pub fill-put-back : (u v : List ℕ) (h : Header) (b : Bool) → Bytes t → h ≡ (decode_table t).header → u ≡ filled t → v ≡ put u 12 (oct 2 h.counts.good) → b ≡ sound u → not b ≡ true
      → (Err why.Unsound ≡ passes (sound (filled t)) why.Unsound) × (v ≡ fills t)
  fill-put-back u v h b bt eh eu ev eb z =
      let s : false ≡ sound (filled t) = sym (not-true b z) ∙ eb ∙ ap sound eu in
      (rw (← s) refl, fill-undone u v h bt eh eu ev ∙ unfilled t s)

-- ---- promises of a fill

-- what it leaves is sound
pub fills-leave : (t : List ℕ) → sound (filled t) ≡ true → sound (fills t) ≡ true
unfolding fills
fills-leave t s = rw s s

-- IN A SOUND TABLE it changes nothing
pub filled-same : (t : List ℕ) → Bytes t → sound t ≡ true → filled t ≡ t
unfolding filled decode_table decode_header header_of header_widths cut
filled-same t b s =
    let c : num (part t 12 2) ≡ good_count (decode_table t) = ap (λ (n : Counts). n.good) (sound-form t s).counts in
    let l = sound-long t s in
    ap (λ (n : ℕ). put t 12 (oct 2 n)) (sym c) ∙ ap (put t 12) (oct-part t 12 2 b (omega (arith, l))) ∙ put-part t 12 2 (omega (arith, l))

pub fills-sound : (t : List ℕ) → Bytes t → sound t ≡ true → fills t ≡ t
unfolding fills
fills-sound t b s = let e = filled-same t b s in let z : sound (filled t) ≡ true = ap sound e ∙ s in rw z e

-- without a table there is nothing to fill
pub fills-none : fills [] ≡ []
fills-none = sym (unfilled [] (filled-short [] (lit< tt)))

-- WHATEVER THE FIELD HELD BEFORE: a sound table in which it was made another number is filled to what it was
module _ (t : List ℕ) (b : Bytes t) (s : sound t ≡ true) (n : ℕ) (small : n < 65536) where
  same_count : good_count (decode_table (put t 12 (oct 2 n))) ≡ good_count (decode_table t)
  unfolding good_count slot
  same_count = ap (λ (T : Table). count_below (λ k. is_good (slot T k)) (slots T)) (with-good-table t b (sound-long t s) n small)

  filled-back : filled (put t 12 (oct 2 n)) ≡ t
  unfolding filled
  filled-back =
      let l = sound-long t s in
      let g = good_count (decode_table t) in
      ap (λ (m : ℕ). put (put t 12 (oct 2 n)) 12 (oct 2 m)) same_count ∙ good-twice t b l n g small (good-small t b l) ∙ filled-same t b s

  pub fill-restores : fills (put t 12 (oct 2 n)) ≡ t
  unfolding fills
  fill-restores = let z : sound (filled (put t 12 (oct 2 n))) ≡ true = ap sound filled-back ∙ s in rw z filled-back
