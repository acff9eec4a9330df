-- The table's octets and the table as a value: the round trips, and a record stored.
use mathlib.Core.Path.{◌≡◌, refl, sym, ap, ◌∙◌, subst}
use mathlib.Core.Bool.{false, ◌&&◌}
use mathlib.Core.List.{List, [], ◌∷◌, ◌++◌, append_assoc}
use Prim.Native.Nat.{ℕ, zero, suc, ◌+◌, ◌-◌, ◌*◌, ◌/◌, ◌^◌, ◌≤◌, ◌<◌}
use native.Mathlib.Omega.{arith}
use native.Mathlib.Decide.{ℕ_discrete}
use borrow.Author.Tests.{eq-eqb, ne_eqb}
use native.Mathlib.Nat.{mul-suc, mul-zero, mul_comm, le-div_iff_mul-le, mul-div_cancel_left}
use lib.Dec.{eqb}
use lib.ListN.{length, take, drop, get_or, set, length-append, length-drop, take-append-drop}
use lib.Seq.{length-take-le, take_at, drop_at, take-add, drop-drop}
use Rattle.octets.specs.Octets.{part, put, num, oct, Bytes}
use Rattle.octets.proofs.Laws.{get-law, bytes-part, bytes_drop, bytes-append, part-part, length_part, length-put, length-oct, part-put-before, part-put-after}
use Rattle.groups.specs.Groups.{width}
use Rattle.record.specs.declared.Counts.{Counts}
use Rattle.record.specs.Layout.{encode_peer, decode_peer, encode_header, decode_header, counted, width_in, link_at, record_size, record_at, no_peer}
use Rattle.record.specs.declared.Peer.{Peer}
use Rattle.record.proofs.Laws.{enc-dec-peer, dec-enc-peer, ShapePeer, FitPeer, StorablePeer, shape-peer, length-peer, bytes-peer, peer-at, enc-dec-header, dec-enc-header, length-header, bytes-header, header-front, counted-put, num-part, FitHeader, form-width, record-below}
use Rattle.record.proofs.Windows.{state-law, finished-law, superseded-law, address-law}
use Rattle.table.specs.Table.{Table, peers_of, octets_of, width_of, decode_table, encode_table, slot, is_good, recounted, with_peer, placed, used_count, open_count, good_count, counts_of, Reached}

-- the record that lies in a slot's octets
unfoldable pub record_in : ℕ → List ℕ → ℕ → Peer
record_in W t k = decode_peer W (part t (record_at W k) (record_size W))

-- ---- products with the record size

pub next : (S k : ℕ) → S + S * k ≡ S * suc k
next S k = omega (arith, mul-suc S k)

-- as many records as a length has room for
pub many : (W n l : ℕ) → l ≡ record_at W n → (l - 32) / record_size W ≡ n
unfolding record_at
many W n l e = let q : l - 32 ≡ record_size W * n = omega arith in ap (λ (x : ℕ). x / record_size W) q ∙ mul-div_cancel_left n (omega arith)

below : (W k l : ℕ) → record_at W k + record_size W ≤ l → k < (l - 32) / record_size W
unfolding record_at
below W k l h =
    let p : suc k * record_size W ≡ record_size W * k + record_size W = mul_comm (suc k) (record_size W) ∙ mul-suc (record_size W) k in
    let z : 0 < record_size W = omega arith in
    let q : suc k * record_size W ≤ l - 32 = omega (arith, p, h) in
    (le-div_iff_mul-le z).1 q

-- a record begins behind the header
pub after-header : (W k : ℕ) → 32 ≤ record_at W k
unfolding record_at
after-header W k = omega arith

behind : (W k : ℕ) → 32 + record_size W * k ≡ record_at W k
unfolding record_at
behind W k = refl

pub width_fits : (t : List ℕ) → width_of t ≤ width
width_fits t = form-width _

-- ---- octets split at a seam

pub put-after : (a b : ℕ) (s v : List ℕ) → take a s ++ put (drop a s) b v ≡ put s (a + b) v
unfolding put
put-after a b s v =
    let p : take (a + b) s ≡ take a s ++ take b (drop a s) = take-add a b s in
    let r : a + (b + length v) ≡ a + b + length v = omega arith in
    let q : drop (b + length v) (drop a s) ≡ drop (a + b + length v) s = drop-drop (b + length v) a s ∙ ap (λ (n : ℕ). drop n s) r in
    rw (p, q) (simp append_assoc)

pub put_front : (s v : List ℕ) (n : ℕ) → length v ≡ n → put s 0 v ≡ v ++ drop n s
unfolding put
put_front s v n e = let q : 0 + length v ≡ n = omega arith in ap (λ (k : ℕ). v ++ drop k s) q

-- ---- records

module _ (W : ℕ) where
  record_of : (s : List ℕ) → Bytes s → record_size W ≤ length s → encode_peer W (decode_peer W (take (record_size W) s)) ≡ take (record_size W) s
  unfolding part
  record_of s b h = enc-dec-peer W (take (record_size W) s) (bytes-part s 0 (record_size W) b) (length-take-le (record_size W) s h)

  octets-of-peers : (n : ℕ) (s : List ℕ) → Bytes s → length s ≡ record_size W * n → octets_of W (peers_of W n s) ≡ s
  unfolding octets_of peers_of
  octets-of-peers zero [] b h = refl
  octets-of-peers zero (x ∷ s) b h = absurd (omega (arith, h, mul-zero (record_size W)))
  octets-of-peers (suc n) s b h =
      let l : length (drop (record_size W) s) ≡ record_size W * n = length-drop (record_size W) s ∙ omega (arith, h, next (record_size W) n) in
      rw (record_of s b (omega (arith, h, next (record_size W) n)), octets-of-peers n (drop (record_size W) s) (bytes_drop (record_size W) s b) l) (take-append-drop (record_size W) s)

  -- a record set is its octets put
  set-octets : (n k : ℕ) (s : List ℕ) (p : Peer) → Bytes s → length s ≡ record_size W * n → k < n → length (encode_peer W p) ≡ record_size W
      → octets_of W (set (peers_of W n s) k p) ≡ put s (record_size W * k) (encode_peer W p)
  unfolding octets_of peers_of
  set-octets zero k s p b h l e = absurd (omega arith)
  set-octets (suc n) zero s p b h l e =
      let m : length (drop (record_size W) s) ≡ record_size W * n = length-drop (record_size W) s ∙ omega (arith, h, next (record_size W) n) in
      rw (octets-of-peers n (drop (record_size W) s) (bytes_drop (record_size W) s b) m, mul-zero (record_size W)) (sym (put_front s (encode_peer W p) (record_size W) e))
  set-octets (suc n) (suc k) s p b h l e =
      let m : length (drop (record_size W) s) ≡ record_size W * n = length-drop (record_size W) s ∙ omega (arith, h, next (record_size W) n) in
      rw (record_of s b (omega (arith, h, next (record_size W) n)), set-octets n k (drop (record_size W) s) p (bytes_drop (record_size W) s b) m (omega arith) e)
      (put-after (record_size W) (record_size W * k) s (encode_peer W p) ∙ ap (λ (a : ℕ). put s a (encode_peer W p)) (next (record_size W) k))

  peer-of : (n k : ℕ) (s : List ℕ) → k < n → get_or (peers_of W n s) k no_peer ≡ decode_peer W (take (record_size W) (drop (record_size W * k) s))
  unfolding peers_of
  peer-of zero k s h = absurd (omega arith)
  peer-of (suc n) zero s h = rw (mul-zero (record_size W)) refl
  peer-of (suc n) (suc k) s h =
      peer-of n k (drop (record_size W) s) (omega arith)
      ∙ ap (λ (l : List ℕ). decode_peer W (take (record_size W) l)) (drop-drop (record_size W * k) (record_size W) s ∙ ap (λ (a : ℕ). drop a s) (next (record_size W) k))

  pub length-peers : (n : ℕ) (s : List ℕ) → length (peers_of W n s) ≡ n
  unfolding peers_of
  length-peers zero s = refl
  length-peers (suc n) s = ap suc (length-peers n (drop (record_size W) s))

-- ---- the table

-- THE ROUND TRIP: octets of a table's length are those of their table, with whatever width
pub encode-decode : (t : List ℕ) (n : ℕ) → Bytes t → length t ≡ record_at (width_of t) n → encode_table (decode_table t) ≡ t
unfolding encode_table decode_table
encode-decode t n b h =
    let q : (length t - 32) / record_size (width_of t) ≡ n = many (width_of t) n (length t) h in
    let l : length (drop 32 t) ≡ record_size (width_of t) * n = length-drop 32 t ∙ omega (arith, h, behind (width_of t) n) in
    rw (q, enc-dec-header t b (omega (arith, h, after-header (width_of t) n)), octets-of-peers (width_of t) n (drop 32 t) (bytes_drop 32 t b) l) (take-append-drop 32 t)

-- the record of a slot is that of its octets
pub slot_at : (t : List ℕ) (k : ℕ) → record_at (width_of t) k + record_size (width_of t) ≤ length t → slot (decode_table t) k ≡ record_in (width_of t) t k
unfolding slot decode_table record_in part
slot_at t k h =
    peer-of (width_of t) ((length t - 32) / record_size (width_of t)) k (drop 32 t) (below (width_of t) k (length t) h)
    ∙ ap (λ (l : List ℕ). decode_peer (width_of t) (take (record_size (width_of t)) l)) (drop-drop (record_size (width_of t) * k) 32 t ∙ ap (λ (a : ℕ). drop a t) (behind (width_of t) k))

module _ (W : ℕ) (t : List ℕ) (k : ℕ) where
  part_of : (b n : ℕ) → b + n ≤ record_size W → part (part t (record_at W k) (record_size W)) b n ≡ part t (record_at W k + b) n
  part_of b n h = part-part t (record_at W k) (record_size W) b n h

  used-of : (record_in W t k).used ≡ num (part t (record_at W k + 0) 1)
  unfolding record_in
  used-of = ap (λ (p : Peer). p.used) (peer-at W (part t (record_at W k) (record_size W))) ∙ ap num (part_of 0 1 (omega arith))

  address-of : (record_in W t k).address ≡ part t (record_at W k + 1) 6
  unfolding record_in
  address-of = address-law W (part t (record_at W k) (record_size W)) ∙ part_of 1 6 (omega arith)

  state-of : (record_in W t k).run.state ≡ num (part t (record_at W k + 7) 1)
  unfolding record_in
  state-of = state-law W (part t (record_at W k) (record_size W)) ∙ ap num (part_of 7 1 (omega arith))

  finished-of : (record_in W t k).link.finished ≡ num (part t (record_at W k + (link_at W + 0)) 1)
  unfolding record_in
  finished-of = finished-law W (part t (record_at W k) (record_size W)) (link_at W) refl ∙ ap num (part_of (link_at W + 0) 1 (omega arith))

  superseded-of : (record_in W t k).link.superseded ≡ num (part t (record_at W k + (link_at W + 1)) 1)
  unfolding record_in
  superseded-of = superseded-law W (part t (record_at W k) (record_size W)) (link_at W) refl ∙ ap num (part_of (link_at W + 1) 1 (omega arith))

-- STORING A RECORD is `set` on the list of records, and its octets put in the slot's place
pub with-peer-octets : (t : List ℕ) (n k : ℕ) (p : Peer) → Bytes t → length t ≡ record_at (width_of t) n → k < n → ShapePeer width p
    → encode_table (with_peer (decode_table t) k p) ≡ put t (record_at (width_of t) k) (encode_peer (width_of t) p)
unfolding encode_table with_peer decode_table
with-peer-octets t n k p b h l f =
    let q : (length t - 32) / record_size (width_of t) ≡ n = many (width_of t) n (length t) h in
    let m : length (drop 32 t) ≡ record_size (width_of t) * n = length-drop 32 t ∙ omega (arith, h, behind (width_of t) n) in
    rw (q, enc-dec-header t b (omega (arith, h, after-header (width_of t) n)), set-octets (width_of t) n k (drop 32 t) p (bytes_drop 32 t b) m l (length-peer (width_of t) p (width_fits t) f))
    (put-after 32 (record_size (width_of t) * k) t (encode_peer (width_of t) p) ∙ ap (λ (a : ℕ). put t a (encode_peer (width_of t) p)) (behind (width_of t) k))

counts-put : (T : Table) (n : Counts)
    → put (put (encode_table T) 2 (oct 2 n.used ++ oct 2 n.opened)) 12 (oct 2 n.good) ≡ encode_table (record { header = counted T.header n; peers = T.peers })
unfolding encode_table
counts-put T n = counted-put T.header (octets_of (width_in T.header) T.peers) n

-- what `recount` shows
pub recount-law : (t v : List ℕ) (m : ℕ) (n : Counts) → Bytes t → length t ≡ record_at (width_of t) m
    → v ≡ put (put t 2 (oct 2 n.used ++ oct 2 n.opened)) 12 (oct 2 n.good) → n ≡ counts_of (decode_table t) → v ≡ encode_table (recounted (decode_table t))
unfolding recounted
recount-law t v m n b h e en =
    e ∙ ap (λ (x : List ℕ). put (put x 2 (oct 2 n.used ++ oct 2 n.opened)) 12 (oct 2 n.good)) (sym (encode-decode t m b h)) ∙ counts-put (decode_table t) n
    ∙ (λ i. encode_table (record { header = counted (decode_table t).header (en i); peers = (decode_table t).peers }))

-- where m octets at `at` are when a record of s octets is placed at r and the counts are put: aside of all of these
pub data Elsewhere (r s at m : ℕ) : Type 0 where
  before_counts : at + m ≤ 2 → Elsewhere r s at m
  between_counts : 6 ≤ at → at + m ≤ 12 → Elsewhere r s at m
  before_record : 14 ≤ at → at + m ≤ r → Elsewhere r s at m
  past_record : r + s ≤ at → Elsewhere r s at m

-- A RECORD PLACED, with its counts, is three puts
module _ (t : List ℕ) (n k : ℕ) (p : Peer) (b : Bytes t) (h : length t ≡ record_at (width_of t) n) (l : k < n) (f : ShapePeer width p) where
  abbrev four : List ℕ
  four = oct 2 (used_count (with_peer (decode_table t) k p)) ++ oct 2 (open_count (with_peer (decode_table t) k p))

  abbrev two : List ℕ
  two = oct 2 (good_count (with_peer (decode_table t) k p))

  abbrev stored-in : List ℕ
  stored-in = put t (record_at (width_of t) k) (encode_peer (width_of t) p)

  length-record : length (encode_peer (width_of t) p) ≡ record_size (width_of t)
  length-record = length-peer (width_of t) p (width_fits t) f

  inside : record_at (width_of t) k + record_size (width_of t) ≤ length t
  inside = omega (arith, record-below (width_of t) k n l, h)

  length-stored : length stored-in ≡ length t
  length-stored = length-put t (record_at (width_of t) k) (encode_peer (width_of t) p) (omega (arith, length-record, inside))

  length-four : length four ≡ 4
  length-four = length-append (oct 2 (used_count (with_peer (decode_table t) k p))) (oct 2 (open_count (with_peer (decode_table t) k p)))
      ∙ omega (arith, length-oct 2 (used_count (with_peer (decode_table t) k p)), length-oct 2 (open_count (with_peer (decode_table t) k p)))

  long : 32 ≤ length t
  long = omega (arith, h, after-header (width_of t) n)

  length_two : length two ≡ 2
  length_two = length-oct 2 (good_count (with_peer (decode_table t) k p))

  length-counted : length (put stored-in 2 four) ≡ length t
  length-counted = length-put stored-in 2 four (omega (arith, length-four, length-stored, long)) ∙ length-stored

  pub placed-octets : encode_table (placed (decode_table t) k p) ≡ put (put stored-in 2 four) 12 two
  unfolding placed recounted
  placed-octets =
      sym (counts-put (with_peer (decode_table t) k p) (counts_of (with_peer (decode_table t) k p)))
      ∙ ap (λ (x : List ℕ). put (put x 2 four) 12 two) (with-peer-octets t n k p b h l f)

  -- EVERY OTHER OCTET stays
  abbrev Aside : ℕ → ℕ → Type 0
  Aside = Elsewhere (record_at (width_of t) k) (record_size (width_of t))

  beside-good : (at m : ℕ) → Aside at m → part (put (put stored-in 2 four) 12 two) at m ≡ part (put stored-in 2 four) at m
  beside-good at m (before_counts x) = part-put-before (put stored-in 2 four) 12 two at m (omega (arith, length-counted, long)) (omega (arith, x))
  beside-good at m (between_counts x y) = part-put-before (put stored-in 2 four) 12 two at m (omega (arith, length-counted, long)) y
  beside-good at m (before_record x y) = part-put-after (put stored-in 2 four) 12 two at m (omega (arith, length-counted, length_two, long)) (omega (arith, length_two, x))
  beside-good at m (past_record x) = part-put-after (put stored-in 2 four) 12 two at m (omega (arith, length-counted, length_two, long)) (omega (arith, length_two, x, after-header (width_of t) k))

  beside-front : (at m : ℕ) → Aside at m → part (put stored-in 2 four) at m ≡ part stored-in at m
  beside-front at m (before_counts x) = part-put-before stored-in 2 four at m (omega (arith, length-stored, long)) x
  beside-front at m (between_counts x y) = part-put-after stored-in 2 four at m (omega (arith, length-stored, length-four, long)) (omega (arith, length-four, x))
  beside-front at m (before_record x y) = part-put-after stored-in 2 four at m (omega (arith, length-stored, length-four, long)) (omega (arith, length-four, x))
  beside-front at m (past_record x) = part-put-after stored-in 2 four at m (omega (arith, length-stored, length-four, long)) (omega (arith, length-four, x, after-header (width_of t) k))

  beside-record : (at m : ℕ) → Aside at m → part stored-in at m ≡ part t at m
  beside-record at m (before_counts x) = part-put-before t (record_at (width_of t) k) (encode_peer (width_of t) p) at m (omega (arith, inside)) (omega (arith, x, after-header (width_of t) k))
  beside-record at m (between_counts x y) = part-put-before t (record_at (width_of t) k) (encode_peer (width_of t) p) at m (omega (arith, inside)) (omega (arith, y, after-header (width_of t) k))
  beside-record at m (before_record x y) = part-put-before t (record_at (width_of t) k) (encode_peer (width_of t) p) at m (omega (arith, inside)) y
  beside-record at m (past_record x) = part-put-after t (record_at (width_of t) k) (encode_peer (width_of t) p) at m (omega (arith, length-record, inside)) (omega (arith, length-record, x))

  pub placed-outside : (at m : ℕ) → Aside at m → part (encode_table (placed (decode_table t) k p)) at m ≡ part t at m
  placed-outside at m w = ap (λ (x : List ℕ). part x at m) placed-octets ∙ beside-good at m w ∙ beside-front at m w ∙ beside-record at m w

-- ---- and back: a table whose values fit, and are stored with its width without loss, is that of its octets

pub data Fits (W : ℕ) : List Peer → Type 0 where
  none : Fits W []
  more : {p : Peer} {ps : List Peer} → FitPeer width p → StorablePeer W p → Fits W ps → Fits W (p ∷ ps)

pub record FitTable (T : Table) : Type 0 where
  pub header : FitHeader T.header
  pub peers : Fits (width_in T.header) T.peers

module _ (W : ℕ) (w : W ≤ width) where
  of_one : {p : Peer} → FitPeer width p → length (encode_peer W p) ≡ record_size W
  of_one {p} f = length-peer W p w (shape-peer f)

  size_of : {ps : List Peer} → Fits W ps → length (octets_of W ps) ≡ record_size W * length ps
  unfolding octets_of
  size_of none = sym (mul-zero (record_size W))
  size_of (more {p} {ps} f g r) = length-append (encode_peer W p) (octets_of W ps) ∙ omega (arith, of_one f, size_of r, next (record_size W) (length ps))

  peers-of-octets : {ps : List Peer} → Fits W ps → peers_of W (length ps) (octets_of W ps) ≡ ps
  unfolding octets_of peers_of
  peers-of-octets none = refl
  peers-of-octets (more {p} {ps} f g r) =
      rw (take_at (encode_peer W p) (octets_of W ps) (record_size W) (of_one f), drop_at (encode_peer W p) (octets_of W ps) (record_size W) (of_one f), dec-enc-peer W p w (shape-peer f) g, peers-of-octets r) refl

pub length-table : (T : Table) → FitTable T → length (encode_table T) ≡ record_at (width_in T.header) (length T.peers)
unfolding encode_table
length-table T f =
    length-append (encode_header T.header) (octets_of (width_in T.header) T.peers)
    ∙ omega (arith, length-header T.header f.header.shape, size_of (width_in T.header) (form-width _) f.peers, behind (width_in T.header) (length T.peers))

pub decode-encode : (T : Table) → FitTable T → decode_table (encode_table T) ≡ T
unfolding decode_table encode_table part
decode-encode T f =
    let l : length (encode_table T) ≡ record_at (width_in T.header) (length T.peers) = length-table T f in
    let q : (length (encode_header T.header ++ octets_of (width_in T.header) T.peers) - 32) / record_size (width_in T.header) ≡ length T.peers = many (width_in T.header) (length T.peers) _ l in
    let h : decode_header (encode_header T.header ++ octets_of (width_in T.header) T.peers) ≡ T.header =
    sym (header-front (encode_header T.header ++ octets_of (width_in T.header) T.peers))
    ∙ ap decode_header (take_at (encode_header T.header) (octets_of (width_in T.header) T.peers) 32 (length-header T.header f.header.shape))
    ∙ dec-enc-header T.header f.header.shape in
    let d : drop 32 (encode_header T.header ++ octets_of (width_in T.header) T.peers) ≡ octets_of (width_in T.header) T.peers =
    drop_at (encode_header T.header) (octets_of (width_in T.header) T.peers) 32 (length-header T.header f.header.shape) in
    rw (h, q, d, peers-of-octets (width_in T.header) (form-width _) f.peers) refl

-- what fits has octets
bytes-all : {W : ℕ} {ps : List Peer} → Fits W ps → Bytes (octets_of W ps)
unfolding octets_of
bytes-all none i = omega arith
bytes-all {W} (more {p} {ps} f g r) i = bytes-append (encode_peer W p) (octets_of W ps) (bytes-peer W p f) (bytes-all r) i

pub bytes-table : (T : Table) → FitTable T → Bytes (encode_table T)
unfolding encode_table
bytes-table T f = bytes-append (encode_header T.header) (octets_of (width_in T.header) T.peers) (bytes-header T.header f.header) (bytes-all f.peers)

-- ---- what the readers of a slot show

-- two octets that are 1 and 0 are the number 1
two-octets : (n x y : ℕ) → n ≡ x + 256 * y → x < 256 → eqb n 1 ≡ (eqb x 1 && eqb y 0)
two-octets n x y e h = elim (ℕ_discrete n 1) [
  | yes q ↦ let p : x ≡ 1 = omega (arith, e, q, h) in let z : y ≡ 0 = omega (arith, e, q, h) in rw (eq-eqb n 1 q, eq-eqb x 1 p, eq-eqb y 0 z)
  | no d ↦ rw (ne_eqb n 1 d) (sym (other (ℕ_discrete x 1) d))
]
  where
    other : Dec (x ≡ 1) → (n ≡ 1 → ⊥) → (eqb x 1 && eqb y 0) ≡ false
    other (yes p) d = let z : eqb y 0 ≡ false = ne_eqb y 0 (λ q. d (omega (arith, e, p, q))) in rw (eq-eqb x 1 p, z)
    other (no p) d = rw (ne_eqb x 1 p)

module _ (t : List ℕ) (w k a : ℕ) (R : Reached t w k) (e : a ≡ record_at w k) where
  slot-in : slot (decode_table t) k ≡ record_in w t k
  slot-in = slot_at t k (subst (λ (W : ℕ). record_at W k + record_size W ≤ length t) R.told R.long) ∙ ap (λ (W : ℕ). record_in W t k) (sym R.told)

  pub used-at-law : (r : ℕ) → r ≡ num (part t (a + 0) 1) → r ≡ (slot (decode_table t) k).used
  used-at-law r q = q ∙ ap (λ (x : ℕ). num (part t (x + 0) 1)) e ∙ sym (ap (λ (p : Peer). p.used) slot-in ∙ used-of w t k)

  pub state-at-law : (r : ℕ) → r ≡ num (part t (a + 7) 1) → r ≡ (slot (decode_table t) k).run.state
  state-at-law r q = q ∙ ap (λ (x : ℕ). num (part t (x + 7) 1)) e ∙ sym (ap (λ (p : Peer). p.run.state) slot-in ∙ state-of w t k)

  -- the two octets of a link that tell whether it is good
  pub good-at-law : (l n : ℕ) → Bytes t → l ≡ link_at w → n ≡ num (part t (a + (l + 0)) 2) → eqb n 1 ≡ is_good (slot (decode_table t) k)
  good-at-law l n b el q =
      let at = record_at w k + (link_at w + 0) in
      let room : at + 2 ≤ length t = omega (arith, R.long) in
      let next : record_at w k + (link_at w + 1) ≡ at + 1 = omega arith in
      let f : (slot (decode_table t) k).link.finished ≡ num (part t at 1) = ap (λ (p : Peer). p.link.finished) slot-in ∙ finished-of w t k in
      let s : (slot (decode_table t) k).link.superseded ≡ num (part t (at + 1) 1) =
      ap (λ (p : Peer). p.link.superseded) slot-in ∙ superseded-of w t k ∙ ap (λ (x : ℕ). num (part t x 1)) next in
      let both : num (part t at 1) + 256 ^ 1 * num (part t (at + 1) 1) ≡ num (part t at 2) = get-law 1 1 t at _ _ _ (omega (arith, room)) refl refl refl in
      let m : n ≡ num (part t at 1) + 256 * num (part t (at + 1) 1) = q ∙ (λ i. num (part t (e i + (el i + 0)) 2)) ∙ sym both in
      two-octets n (num (part t at 1)) (num (part t (at + 1) 1)) m (num-part t b at 1 (omega (arith, room))) ∙ (λ i. eqb (sym f i) 1 && eqb (sym s i) 0)

  pub address-at-law : (r : List ℕ) → r ≡ part t (a + 1) 6 → r ≡ (slot (decode_table t) k).address
  address-at-law r q = q ∙ ap (λ (x : ℕ). part t (x + 1) 6) e ∙ sym (ap (λ (p : Peer). p.address) slot-in ∙ address-of w t k)

  pub number-at-law : (r : ℕ) → r ≡ num (part t (a + 1) 6) → r ≡ num (slot (decode_table t) k).address
  number-at-law r q = q ∙ ap num (address-at-law (part t (a + 1) 6) refl)

  pub number_small : (r : ℕ) → Bytes t → r ≡ num (part t (a + 1) 6) → r < 281474976710656
  number_small r b q = let z : num (part t (a + 1) 6) < 281474976710656 = num-part t b (a + 1) 6 (omega (arith, e, R.long)) in rw q z

  -- a slot's window, as the functions lend it
  pub window-law : (n : ℕ) → n ≡ record_size w → decode_peer w (take (a + n - a) (drop a t)) ≡ slot (decode_table t) k
  unfolding record_in part
  window-law n q =
      let m : a + n - a ≡ record_size w = omega (arith, q) in
      ap (λ (x : ℕ). decode_peer w (take x (drop a t))) m ∙ ap (λ (x : ℕ). decode_peer w (take (record_size w) (drop x t))) e ∙ sym slot-in

  pub window-length : (n : ℕ) → n ≡ record_size w → length (take (a + n - a) (drop a t)) ≡ record_size w
  unfolding part
  window-length n q = let m : a + n - a ≡ record_size w = omega (arith, q) in ap (λ (x : ℕ). length (take x (drop a t))) m ∙ length_part t a (record_size w) (omega (arith, e, R.long))
