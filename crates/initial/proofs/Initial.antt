-- The table that set up makes: its octets, and that it is sound.
use mathlib.Core.Path.{◌≡◌, refl, sym, ap, ◌∙◌, subst}
use mathlib.Core.Bool.{Bool, true, false, not, ◌&&◌}
use mathlib.Core.List.{List, [], ◌∷◌, ◌++◌, append-nil}
use Prim.Native.Nat.{ℕ, zero, suc, ◌+◌, ◌-◌, ◌*◌, ◌/◌, ◌%◌, ◌≤◌, ◌<◌}
use native.Mathlib.Omega.{arith}
use native.Mathlib.Decide.{ℕ_discrete}
use native.Mathlib.Nat.{mul-zero}
use lib.Dec.{eqb, leb, lit<, lit≤}
use lib.ListN.{length, take, drop, get_or, replicate, length-replicate, length-drop, drop_of_length-le}
use lib.Seq.{length-take-le, drop_at}
use borrow.Rule.Slice.PartMut.{put_mid}
use borrow.Author.Tests.{eqb-true, leb-true, eq-eqb, ne_eqb, not-true, not-false}
use Rattle.causes.specs.declared.Refusal.TheVariants as why
use Rattle.causes.specs.Causes.{passes}
use Rattle.octets.specs.Octets.{Bytes, put}
use Rattle.octets.proofs.Laws.{mid-put}
use Rattle.std.specs.Prelude.{if◌then◌else◌, Ok, Err}
use Rattle.octets.specs.Scan.{count_below}
use Rattle.octets.proofs.Scan.{clash, and_left, and_right}
use Rattle.record.specs.declared.Form.{Form as Kind}
use Rattle.record.specs.declared.Peer.{Peer}
use Rattle.record.specs.declared.Header.{Header}
use Rattle.record.specs.declared.Settings.{Settings}
use Rattle.groups.specs.Groups.{width}
use Rattle.record.specs.Layout.{record_size, record_at, form_of, no_peer, no_run, no_link, encode_header, limit_of}
use Rattle.record.proofs.Laws.{ShapeSettings, StorablePeer, storable-peer, fit-no-peer, no-peer-at, zero-peer, Served, form-width, form-served, served-width, served-slots}
use Rattle.soundness.specs.Soundness.{own_ok, settings_ok, peer_ok}
use Rattle.soundness.proofs.Laws.{form-header, no-peer-ok}
use Rattle.table.specs.Table.{octets_of, encode_table, decode_table, slot, slots, in_use, is_open, is_good, belongs, used_count, open_count, good_count, recounted, sound}
use Rattle.table.proofs.Octets.{next, Fits, none, more, FitTable, decode-encode, bytes-table}
use Rattle.table.proofs.Kept.{Form, form-sound}
use Rattle.table.proofs.Changed.{recounted-same}
use Rattle.initial.specs.Initial.{made, slots_for, length_ok, initial_header, initial_table, initial_ok, initial}

-- every slot of a fresh table is free
replicate-at : (n k : ℕ) (p : Peer) → get_or (replicate n p) k p ≡ p
replicate-at zero k p = refl
replicate-at (suc n) zero p = refl
replicate-at (suc n) (suc k) p = replicate-at n k p

pub initial-slot : (f : Kind) (s : Settings) (own : List ℕ) (n k : ℕ) → slot (initial_table f s own n) k ≡ no_peer
unfolding slot initial_table
initial-slot f s own n k = replicate-at n k no_peer

no-count : (f : ℕ → Bool) (n : ℕ) → ((k : ℕ) → f k ≡ false) → count_below f n ≡ 0
unfolding count_below
no-count f zero h = refl
no-count f (suc n) h = rw (no-count f n h, h n) refl

unused : in_use no_peer ≡ false
unfolding no_peer
unused = refl

not-open : is_open no_peer ≡ false
unfolding no_peer no_run
not-open = refl

not_good : is_good no_peer ≡ false
unfolding no_peer no_link
not_good = refl

module _ (f : Kind) (S : Served f) (s : Settings) (own : List ℕ) (n : ℕ) (ok : settings_ok f s ≡ true) (o : own_ok own ≡ true) (some : 1 ≤ n) (few : n ≤ f.slots) where
  pub fresh-form : Form (initial_table f s own n)
  unfolding initial_table initial_header used_count open_count good_count belongs
  fresh-form = record {
    header = form-header (initial_header f s own n) (record {
      geometry = record { some = some; few = subst (λ (k : Kind). n ≤ k.slots) (sym S.told) few; first = refl };
      spare = refl;
      own = o;
      settings = subst (λ (k : Kind). settings_ok k s ≡ true) (sym S.told) ok;
    });
    each = λ k h.
        subst (λ (p : Peer). peer_ok own (take s.count s.groups) (limit_of s.limit + 1) p ≡ true) (sym (initial-slot f s own n k))
        (no-peer-ok own (take s.count s.groups) (limit_of s.limit + 1));
    apart = λ i j li lj d u. absurd (clash u (ap in_use (initial-slot f s own n j) ∙ unused));
    counts =
        let u = no-count (λ k. in_use (slot (initial_table f s own n) k)) n (λ k. ap in_use (initial-slot f s own n k) ∙ unused) in
        let o = no-count (λ k. is_open (slot (initial_table f s own n) k)) n (λ k. ap is_open (initial-slot f s own n k) ∙ not-open) in
        let g = no-count (λ k. is_good (slot (initial_table f s own n) k)) n (λ k. ap is_good (initial-slot f s own n k) ∙ not_good) in
        λ i. record { used = sym u i; opened = sym o i; good = sym g i };
  }

-- the numbers of the form that set up makes
pub made-size : {f : Kind} → f ≡ made → f.size ≡ made.size
made-size e = ap (λ (f : Kind). f.size) e

pub made-slots : {f : Kind} → f ≡ made → f.slots ≡ made.slots
made-slots e = ap (λ (f : Kind). f.slots) e

pub made-header : (s : Settings) (own : List ℕ) (n : ℕ) (f : Kind) → f ≡ made
    → ◌≡◌ {A = Header}
    (record { geometry = record { slots = n; size = f.size; first = 32 }; counts = record { used = 0; opened = 0; good = 0 }; spare = 0; own = own; settings = s })
    (initial_header made s own n)
unfolding initial_header
made-header s own n f e =
    λ i. record { geometry = record { slots = n; size = (e i).size; first = 32 }; counts = record { used = 0; opened = 0; good = 0 }; spare = 0; own = own; settings = s }

-- what `length_ok` shows
pub length-short : (n : ℕ) → n < 32 → false ≡ length_ok made n
unfolding length_ok slots_for
length-short n h = let e : (n - 32) / 1080 ≡ 0 = omega arith in sym (rw e refl)

pub length-law : (n k : ℕ) → 32 ≤ n → k ≡ slots_for made n → (leb 1 k && (leb k made.slots && eqb ((n - 32) % made.size) 0)) ≡ length_ok made n
unfolding length_ok slots_for record_at
length-law n k h e = rw e (ap (λ (b : Bool). leb 1 ((n - 32) / 1080) && (leb ((n - 32) / 1080) 60 && b)) (go (ℕ_discrete ((n - 32) % 1080) 0)))
  where
    go : Dec ((n - 32) % 1080 ≡ 0) → eqb ((n - 32) % 1080) 0 ≡ eqb n (32 + 1080 * ((n - 32) / 1080))
    go (yes z) = eq-eqb _ _ z ∙ sym (eq-eqb n (32 + 1080 * ((n - 32) / 1080)) (omega arith))
    go (no d) = ne_eqb _ _ d ∙ sym (ne_eqb n (32 + 1080 * ((n - 32) / 1080)) (λ q. d (omega arith)))

pub length-by : (n k : ℕ) (f : Kind) → f ≡ made → 32 ≤ n → k ≡ slots_for made n → (leb 1 k && (leb k f.slots && eqb ((n - 32) % f.size) 0)) ≡ length_ok made n
length-by n k f e h q = ap (λ (g : Kind). leb 1 k && (leb k g.slots && eqb ((n - 32) % g.size) 0)) e ∙ length-law n k h q

pub slots-by : (n : ℕ) (f : Kind) → f ≡ made → (n - 32) / f.size ≡ slots_for made n
unfolding slots_for
slots-by n f e = ap (λ (g : Kind). (n - 32) / g.size) e

-- ---- the fresh table fits, and its octets

storable-none : (W : ℕ) → W ≤ width → StorablePeer W no_peer
storable-none W w = subst (StorablePeer W) (no-peer-at W w) (storable-peer W (replicate (record_size W) 0) (length-replicate {A = ℕ} (record_size W) 0))

fits-none : (W n : ℕ) → W ≤ width → Fits W (replicate n no_peer)
fits-none W zero w = none
fits-none W (suc n) w = more fit-no-peer (storable-none W w) (fits-none W n w)

zeros-append : (m n : ℕ) → replicate m 0 ++ replicate n 0 ≡ replicate {A = ℕ} (m + n) 0
zeros-append zero n = let e : 0 + n ≡ n = omega arith in rw e refl
zeros-append (suc m) n = let e : suc m + n ≡ suc (m + n) = omega arith in rw e (ap (λ (l : List ℕ). 0 ∷ l) (zeros-append m n))

octets-none : (W n : ℕ) → W ≤ width → octets_of W (replicate n no_peer) ≡ replicate (record_size W * n) 0
unfolding octets_of
octets-none W zero w = rw (mul-zero (record_size W)) refl
octets-none W (suc n) w =
    rw (zero-peer W w, octets-none W n w) (zeros-append (record_size W) (record_size W * n) ∙ ap (λ (m : ℕ). replicate m 0) (next (record_size W) n))

pub initial-octets : (s : Settings) (own : List ℕ) (n : ℕ)
    → encode_table (initial_table made s own n) ≡ encode_header (initial_header made s own n) ++ replicate (made.size * n) 0
unfolding encode_table initial_table initial_header form_of
initial-octets s own n = ap (λ (l : List ℕ). encode_header (initial_header made s own n) ++ l) (octets-none made.width n (lit≤ tt))

-- settings and an own address whose numbers and arrays fit
pub record FitSettings (s : Settings) (own : List ℕ) : Type 0 where
  pub settings : ShapeSettings s
  pub six : length own ≡ 6
  pub bytes : Bytes own

length-initial : (f : Kind) (s : Settings) (own : List ℕ) (n : ℕ) → length (initial_table f s own n).peers ≡ slots (initial_table f s own n)
unfolding initial_table initial_header
length-initial f s own n = length-replicate n no_peer

-- what cause 1 leaves out
pub record InitialForm (f : Kind) (s : Settings) (own : List ℕ) (l : ℕ) : Type 0 where
  pub settings : settings_ok f s ≡ true
  pub owner : own_ok own ≡ true
  pub some : 1 ≤ slots_for f l
  pub few : slots_for f l ≤ f.slots
  pub whole : l ≡ record_at f.width (slots_for f l)

pub initial-ok-form : (f : Kind) (s : Settings) (own : List ℕ) (l : ℕ) → initial_ok f s own l ≡ true → InitialForm f s own l
unfolding initial_ok length_ok
initial-ok-form f s own l ok =
    let k₁ = and_right (settings_ok f s) _ ok in
    let k₂ = and_right (own_ok own) _ k₁ in
    let k₃ = and_right (leb 1 (slots_for f l)) _ k₂ in
    record { settings = and_left _ _ ok; owner = and_left _ _ k₁; some = leb-true _ _ (and_left _ _ k₂); few = leb-true _ _ (and_left _ _ k₃); whole = eqb-true _ _ (and_right (leb (slots_for f l) f.slots) _ k₃) }

-- a form that makes a table has slots
pub initial-served : (size : ℕ) (s : Settings) (own : List ℕ) (l : ℕ) → initial_ok (form_of size) s own l ≡ true → Served (form_of size)
initial-served size s own l ok = let g = initial-ok-form (form_of size) s own l ok in form-served size (omega (arith, g.some, g.few))

module _ (f : Kind) (S : Served f) where
  pub fit-initial : (s : Settings) (own : List ℕ) (n : ℕ) → n ≤ f.slots → FitSettings s own → FitTable (initial_table f s own n)
  unfolding initial_table initial_header
  fit-initial s own n h i = record {
    header = record {
      shape = record {
        geometry = record { slots = omega (arith, h, served-slots f S); size = omega (arith, S.made, served-width f S); first = lit< tt };
        counts = record { used = lit< tt; opened = lit< tt; good = lit< tt };
        spare = lit< tt;
        own = i.six;
        settings = i.settings;
      };
      own = i.bytes;
    };
    peers = fits-none (form_of f.size).width n (form-width f.size);
  }

  -- its counts are true: made true, they leave it as it is
  pub initial-recounted : (s : Settings) (own : List ℕ) (l : ℕ) → InitialForm f s own l
      → recounted (initial_table f s own (slots_for f l)) ≡ initial_table f s own (slots_for f l)
  initial-recounted s own l g = recounted-same _ (fresh-form f S s own (slots_for f l) g.settings g.owner g.some g.few).counts

  module _ (s : Settings) (own t : List ℕ) (i : FitSettings s own) where
    -- THE FRESH TABLE IS SOUND
    pub initial-sound : initial_ok f s own (length t) ≡ true → sound (initial f s own t) ≡ true
    unfolding initial
    initial-sound ok =
        let g = initial-ok-form f s own (length t) ok in
        let n = slots_for f (length t) in
        rw ok (form-sound (initial_table f s own n) (fit-initial s own n g.few i) (length-initial f s own n) (fresh-form f S s own n g.settings g.owner g.some g.few))

    -- and its table is the fresh one
    pub initial-decoded : initial_ok f s own (length t) ≡ true → decode_table (initial f s own t) ≡ initial_table f s own (slots_for f (length t))
    unfolding initial
    initial-decoded ok =
        let g = initial-ok-form f s own (length t) ok in
        rw ok (decode-encode (initial_table f s own (slots_for f (length t))) (fit-initial s own (slots_for f (length t)) g.few i))

    pub bytes-initial : Bytes t → Bytes (initial f s own t)
    unfolding initial
    bytes-initial b = go (initial_ok f s own (length t)) refl
      where
        go : (x : Bool) → initial_ok f s own (length t) ≡ x → Bytes (if initial_ok f s own (length t) then encode_table (initial_table f s own (slots_for f (length t))) else t)
        go true e = rw e (bytes-table (initial_table f s own (slots_for f (length t))) (fit-initial s own (slots_for f (length t)) (initial-ok-form f s own (length t) e).few i))
        go false e = rw e b

-- CAUSE 1 leaves every octet
pub initial-refused : (f : Kind) (s : Settings) (own t : List ℕ) → initial_ok f s own (length t) ≡ false → initial f s own t ≡ t
unfolding initial
initial-refused f s own t e = rw e

-- what `fill` and `write_initial` show
pub fill-law : (t y z : List ℕ) (h : Header) → 32 ≤ length t → length (encode_header h) ≡ 32 → y ≡ replicate (length (take (length t - 32) (drop 32 t))) 0 → z ≡ encode_header h
    → put_mid 0 32 (put_mid 32 (length t - 32) t y) z ≡ encode_header h ++ replicate (length t - 32) 0
unfolding put
fill-law t y z h l e ey ez =
    let a : length (take (length t - 32) (drop 32 t)) ≡ length t - 32 = length-take-le (length t - 32) (drop 32 t) (simp length-drop (omega arith)) in
    let ly : length y ≡ length t - 32 = ap length ey ∙ length-replicate {A = ℕ} (length (take (length t - 32) (drop 32 t))) 0 ∙ a in
    let b : drop (32 + length y) t ≡ [] = drop_of_length-le t {i = 32 + length y} (omega arith) in
    let m : put_mid 32 (length t - 32) t y ≡ take 32 t ++ y = mid-put 32 (length t - 32) t y ly ∙ rw (b, append-nil) refl in
    let n : length (take 32 t) ≡ 0 + length z = length-take-le 32 t l ∙ sym (ap length ez ∙ e) ∙ omega arith in
    mid-put 0 32 _ z (ap length ez ∙ e) ∙ ap (λ (x : List ℕ). put x 0 z) m ∙ rw (drop_at (take 32 t) y (0 + length z) n, ey, a, ez) refl

pub refused-law : (s : Settings) (own t : List ℕ) (b : Bool) → b ≡ initial_ok made s own (length t) → not b ≡ true → (Err why.Settings ≡ passes (initial_ok made s own (length t)) why.Settings) × (t ≡ initial made s own t)
refused-law s own t b e q = let z : initial_ok made s own (length t) ≡ false = sym e ∙ not-true b q in (rw z refl, sym (initial-refused made s own t z))

pub initial-by : (s : Settings) (own t : List ℕ) (b : Bool) → b ≡ initial_ok made s own (length t) → not b ≡ false → InitialForm made s own (length t)
initial-by s own t b e q = initial-ok-form made s own (length t) (sym e ∙ not-false b q)

-- its length, in numbers
pub initial-long : (s : Settings) (own : List ℕ) (l : ℕ) → InitialForm made s own l → l ≡ 32 + made.size * slots_for made l
unfolding record_at
initial-long s own l g = g.whole

pub long-by : (s : Settings) (own t : List ℕ) (b : Bool) → b ≡ initial_ok made s own (length t) → not b ≡ false → 32 ≤ length t
long-by s own t b e q = let g = initial-by s own t b e q in omega (arith, initial-long s own (length t) g)

pub written-law : (s : Settings) (own t y : List ℕ) (b : Bool) (k : ℕ) (h : Header) → b ≡ initial_ok made s own (length t) → not b ≡ false → k ≡ slots_for made (length t)
    → h ≡ initial_header made s own k → y ≡ encode_header h ++ replicate (length t - 32) 0 → (Ok tt ≡ passes (initial_ok made s own (length t)) why.Settings) × (y ≡ initial made s own t)
unfolding initial
written-law s own t y b k h e q ek eh ey =
    let ok : initial_ok made s own (length t) ≡ true = sym e ∙ not-false b q in
    let w : length t - 32 ≡ made.size * slots_for made (length t) = omega (arith, initial-long s own (length t) (initial-by s own t b e q)) in
    (rw ok refl, ey ∙ rw (ok, eh, ek, w) (sym (initial-octets s own (slots_for made (length t)))))
