-- What the copying of all records shows: the octets of each go into its slot, and behind the header they are those of the moved table.
use mathlib.Core.Path.{◌≡◌, refl, sym, ap, ◌∙◌}
use mathlib.Core.List.{List, [], ◌∷◌, ◌++◌, append_assoc, append-nil}
use Prim.Native.Nat.{ℕ, zero, suc, ◌+◌, ◌-◌, ◌*◌, ◌≤◌, ◌<◌}
use native.Mathlib.Omega.{arith}
use native.Mathlib.Nat.{zero-add, mul-zero, mul-le-mul_left}
use native.Mathlib.Numerals.{add-one}
use lib.ListN.{length, take, drop, get_or, length-append, drop_of_length-le}
use lib.Seq.{length-take-le, take-suc, take_all, drop_at}
use borrow.Rule.Slice.PartMut.{put_mid}
use Rattle.octets.specs.Octets.{Bytes, part, put}
use Rattle.octets.proofs.Laws.{length-put, put-put, put-nil, mid-put, bytes-part}
use Rattle.groups.specs.Groups.{width}
use Rattle.record.specs.declared.Form.{Form}
use Rattle.record.specs.declared.Peer.{Peer}
use Rattle.record.specs.declared.Header.{Header}
use Rattle.record.specs.Layout.{width_in, record_size, record_at, encode_peer, decode_peer, encode_header, no_peer}
use Rattle.record.proofs.Laws.{shape-peer, fit-peer, length-peer, length-six, record-below}
use Rattle.table.specs.Table.{width_of, decode_table, encode_table, octets_of, slots, slot}
use Rattle.table.proofs.Octets.{Fits, none, more, next, window-law, window-length}
use Rattle.table.proofs.Laws.{sound-whole, peers-held, reach, width-told}
use Rattle.table.proofs.Fit.{fit-decoded}
use Rattle.moves.specs.Moves.{sized, moved, Beside, BesideAll, Carried}

-- ---- one slot

pub slot-law : (s t y : List ℕ) (w v k a b n m : ℕ) → Beside s t w v k → Bytes s → a ≡ record_at w k → n ≡ record_size w → b ≡ record_at v k → m ≡ record_size v
    → y ≡ encode_peer v (decode_peer w (take (a + n - a) (drop a s))) → put_mid b (b + m - b) t y ≡ put t (record_at v k) (encode_peer v (slot (decode_table s) k))
unfolding part
slot-law s t y w v k a b n m B bs ea en eb em ey =
    let R = B.source in
    let l : length (take (a + n - a) (drop a s)) ≡ record_size w = window-length s w k a R ea n en in
    let f = fit-peer w (take (a + n - a) (drop a s)) R.most (bytes-part s a (a + n - a) bs) l in
    let q : length y ≡ b + m - b = ap length ey ∙ length-peer v _ B.most (shape-peer f) ∙ omega (arith, em) in
    mid-put b (b + m - b) t y q ∙ (λ i. put t (eb i) ((ey ∙ ap (encode_peer v) (window-law s w k a R ea n en)) i))

-- ---- all slots

octets-append : (W : ℕ) (ps qs : List Peer) → octets_of W (ps ++ qs) ≡ octets_of W ps ++ octets_of W qs
unfolding octets_of
octets-append W [] qs = refl
octets-append W (p ∷ ps) qs = ap (λ (x : List ℕ). encode_peer W p ++ x) (octets-append W ps qs) ∙ sym (append_assoc (encode_peer W p) (octets_of W ps) (octets_of W qs))

-- one record more
octets-more : (W : ℕ) (ps : List Peer) (i : ℕ) → i < length ps → octets_of W (take (i + 1) ps) ≡ octets_of W (take i ps) ++ encode_peer W (get_or ps i no_peer)
unfolding octets_of
octets-more W ps i h =
    ap (λ (n : ℕ). octets_of W (take n ps)) (add-one i) ∙ ap (octets_of W) (take-suc ps i no_peer h) ∙ octets-append W (take i ps) (get_or ps i no_peer ∷ [])
    ∙ ap (λ (x : List ℕ). octets_of W (take i ps) ++ x) (append-nil (encode_peer W (get_or ps i no_peer)))

octets-long : {W : ℕ} {ps : List Peer} (W' i : ℕ) → W' ≤ width → Fits W ps → i ≤ length ps → length (octets_of W' (take i ps)) ≡ record_size W' * i
unfolding octets_of
octets-long W' zero l f h = sym (mul-zero (record_size W'))
octets-long W' (suc i) l none h = absurd (omega arith)
octets-long W' (suc i) l (more {p} {ps} f g r) h =
    length-append (encode_peer W' p) (octets_of W' (take i ps)) ∙ omega (arith, length-peer W' p l (shape-peer f), octets-long W' i l r (omega arith), next (record_size W') i)

module _ (s t : List ℕ) (w v n : ℕ) (b : Bytes s) (B : BesideAll s t w v n) where
  abbrev peers : List Peer
  peers = (decode_table s).peers

  whole : length s ≡ record_at (width_of s) n
  whole = B.whole ∙ ap (λ (x : ℕ). record_at x n) B.source.told

  held : length peers ≡ n
  held = peers-held s n whole

  long : (i : ℕ) → i ≤ n → length (octets_of v (take i peers)) ≡ record_size v * i
  long i h = octets-long v i B.most (fit-decoded s n b whole).peers (omega (arith, h, held))

  pub none_yet : t ≡ put t 32 (octets_of v (take 0 peers))
  unfolding octets_of
  none_yet = sym (put-nil t 32)

  room_for : (i : ℕ) → i ≤ n → 32 + length (octets_of v (take i peers)) ≤ length t
  unfolding record_at
  room_for i h = omega (arith, long i h, B.room, mul-le-mul_left (record_size v) h)

  pub same-long : (u : List ℕ) (i : ℕ) → i ≤ n → u ≡ put t 32 (octets_of v (take i peers)) → length u ≡ length t
  same-long u i h e = ap length e ∙ length-put t 32 (octets_of v (take i peers)) (room_for i h)

  pub one-beside : (u : List ℕ) (i : ℕ) → i < n → u ≡ put t 32 (octets_of v (take i peers)) → Beside s u w v i
  one-beside u i h e = record { source = reach s w n i B.source h; most = B.most; room = omega (arith, same-long u i (omega arith) e, B.room, record-below v i n h) }

  pub one_more : (u x : List ℕ) (i : ℕ) → i < n → u ≡ put t 32 (octets_of v (take i peers)) → x ≡ put u (record_at v i) (encode_peer v (slot (decode_table s) i))
      → x ≡ put t 32 (octets_of v (take (i + 1) peers))
  unfolding record_at slot
  one_more u x i h e q =
      let a : octets_of v (take (i + 1) peers) ≡ octets_of v (take i peers) ++ encode_peer v (get_or peers i no_peer) = octets-more v peers i (omega (arith, held)) in
      let k : 32 + record_size v * i ≡ 32 + length (octets_of v (take i peers)) = omega (arith, long i (omega arith)) in
      let m : length (encode_peer v (get_or peers i no_peer)) + length (octets_of v (take i peers)) ≡ length (octets_of v (take (i + 1) peers)) =
      omega (arith, ap length a, length-append (octets_of v (take i peers)) (encode_peer v (get_or peers i no_peer))) in
      q ∙ ap (λ (y : List ℕ). put y (32 + record_size v * i) (encode_peer v (get_or peers i no_peer))) e
      ∙ ap (λ (j : ℕ). put (put t 32 (octets_of v (take i peers))) j (encode_peer v (get_or peers i no_peer))) k
      ∙ put-put t 32 (octets_of v (take i peers)) (encode_peer v (get_or peers i no_peer)) (omega (arith, m, room_for (i + 1) (omega arith))) ∙ ap (put t 32) (sym a)

  pub all_done : (u : List ℕ) (i : ℕ) → i ≤ n → n ≤ i → u ≡ put t 32 (octets_of v (take i peers)) → u ≡ put t 32 (octets_of v (take n peers))
  all_done u i h l e = let q : i ≡ n = omega arith in e ∙ ap (λ (j : ℕ). put t 32 (octets_of v (take j peers))) q

-- ---- the whole table

module _ (f : Form) (s : List ℕ) (h : Header) (t : List ℕ) (C : Carried f s h t) where
  the-slots : h.geometry.slots ≡ slots (decode_table s)
  the-slots = ap (λ (g : Header). g.geometry.slots) C.header

  pub carry-beside : (w : ℕ) → w ≡ width_in h → w ≤ width → BesideAll s t w f.width h.geometry.slots
  carry-beside w e m =
      let told : w ≡ width_of s = width-told s h w C.header e in
      let all : length s ≡ record_at w h.geometry.slots = sound-whole s C.sound ∙ (λ i. record_at (sym told i) (sym the-slots i)) in
      record { source = record { told = told; most = m; long = omega (arith, all) }; whole = all; most = C.most; room = omega (arith, C.long) }

  records-in : (u : List ℕ) → Bytes s → u ≡ put t 32 (octets_of f.width (take h.geometry.slots (decode_table s).peers)) → drop 32 u ≡ octets_of f.width (decode_table s).peers
  unfolding put record_at
  records-in u b e =
      let n : length (decode_table s).peers ≡ h.geometry.slots = peers-held s (slots (decode_table s)) (sound-whole s C.sound) ∙ sym the-slots in
      let a : take h.geometry.slots (decode_table s).peers ≡ (decode_table s).peers = take_all h.geometry.slots (decode_table s).peers (omega (arith, n)) in
      let k : length (take 32 t) ≡ 32 = length-take-le 32 t C.head in
      let o : length (octets_of f.width (decode_table s).peers) ≡ record_size f.width * h.geometry.slots =
      ap (λ (ps : List Peer). length (octets_of f.width ps)) (sym a)
      ∙ octets-long f.width h.geometry.slots C.most (fit-decoded s (slots (decode_table s)) b (sound-whole s C.sound)).peers (omega (arith, n)) in
      let d : drop (32 + length (octets_of f.width (decode_table s).peers)) t ≡ [] = drop_of_length-le t {i = 32 + length (octets_of f.width (decode_table s).peers)} (omega (arith, C.long, o)) in
      ap (drop 32) (e ∙ ap (λ (ps : List Peer). put t 32 (octets_of f.width ps)) a)
      ∙ drop_at (take 32 t) (octets_of f.width (decode_table s).peers ++ drop (32 + length (octets_of f.width (decode_table s).peers)) t) 32 k
      ∙ rw d (append-nil (octets_of f.width (decode_table s).peers))

  sized-width : width_in (sized (decode_table s).header f.size) ≡ f.width
  sized-width = ap (λ (g : Form). g.width) C.told

  -- THE RECORDS, AND THE HEADER IN FRONT, are the moved table
  pub carry-law : (u y : List ℕ) (g : Header) → Bytes s → length h.own ≡ 6 → u ≡ put t 32 (octets_of f.width (take h.geometry.slots (decode_table s).peers))
      → g ≡ sized h f.size → y ≡ encode_header g → put_mid 0 32 u y ≡ moved f s
  unfolding moved encode_table put
  carry-law u y g b six eu eg ey =
      let q : y ≡ encode_header (sized (decode_table s).header f.size) = ey ∙ ap encode_header (eg ∙ ap (λ (x : Header). sized x f.size) C.header) in
      let l : length y ≡ 32 = ap length (ey ∙ ap encode_header eg) ∙ length-six (sized h f.size) six in
      mid-put 0 32 u y l ∙ ap (λ (n : ℕ). y ++ drop n u) (zero-add (length y) ∙ l)
      ∙ (λ i. q i ++ records-in u b eu i) ∙ ap (λ (W : ℕ). encode_header (sized (decode_table s).header f.size) ++ octets_of W (decode_table s).peers) (sym sized-width)
