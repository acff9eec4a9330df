-- What octets say always fits: their table is that of its octets again. A record that fits, placed, leaves a table that fits.
use mathlib.Core.Path.{◌≡◌, ◌∙◌}
use mathlib.Core.List.{List}
use Prim.Native.Nat.{ℕ, zero, suc, ◌-◌, ◌*◌, ◌/◌, ◌≤◌, ◌<◌}
use native.Mathlib.Omega.{arith}
use lib.ListN.{length, take, drop, get_or, set, length-drop}
use lib.Seq.{length-take-le}
use Rattle.octets.specs.Octets.{part, Bytes}
use Rattle.octets.proofs.Laws.{bytes-part, bytes_drop}
use Rattle.octets.proofs.Scan.{count-le}
use Rattle.groups.specs.Groups.{width}
use Rattle.record.specs.declared.Peer.{Peer}
use Rattle.record.specs.Layout.{width_in, record_size, record_at, no_peer}
use Rattle.record.proofs.Laws.{FitPeer, StorablePeer, fit-peer, storable-peer, fit-header, form-width}
use Rattle.table.specs.Table.{Table, width_of, decode_table, encode_table, peers_of, slots, slot, in_use, is_open, is_good, recounted, with_peer, placed, used_count, open_count, good_count}
use Rattle.table.proofs.Octets.{next, many, Fits, none, more, FitTable, bytes-table}

fit-peers : (W n : ℕ) (s : List ℕ) → W ≤ width → Bytes s → length s ≡ record_size W * n → Fits W (peers_of W n s)
unfolding peers_of part
fit-peers W zero s w b h = none
fit-peers W (suc n) s w b h =
    let l : length (drop (record_size W) s) ≡ record_size W * n = length-drop (record_size W) s ∙ omega (arith, h, next (record_size W) n) in
    let k : length (take (record_size W) s) ≡ record_size W = length-take-le (record_size W) s (omega (arith, h, next (record_size W) n)) in
    more (fit-peer W (take (record_size W) s) w (bytes-part s 0 (record_size W) b) k) (storable-peer W (take (record_size W) s) k) (fit-peers W n (drop (record_size W) s) w (bytes_drop (record_size W) s b) l)

pub fit-decoded : (t : List ℕ) (n : ℕ) → Bytes t → length t ≡ record_at (width_of t) n → FitTable (decode_table t)
unfolding decode_table record_at
fit-decoded t n b h =
    let q : (length t - 32) / record_size (width_of t) ≡ n = many (width_of t) n (length t) h in
    let l : length (drop 32 t) ≡ record_size (width_of t) * ((length t - 32) / record_size (width_of t)) = rw q (length-drop 32 t ∙ omega (arith, h)) in
    record { header = fit-header t b (omega (arith, h)); peers = fit-peers (width_of t) _ (drop 32 t) (form-width _) (bytes_drop 32 t b) l }

pub fits-set : {W : ℕ} {ps : List Peer} (k : ℕ) {p : Peer} → Fits W ps → FitPeer width p → StorablePeer W p → Fits W (set ps k p)
fits-set k none f g = none
fits-set zero (more h i r) f g = more f g r
fits-set (suc k) (more h i r) f g = more h i (fits-set k r f g)

-- a record that fits, placed in a table that fits
pub fit-placed : (T : Table) (k : ℕ) (p : Peer) → FitTable T → FitPeer width p → StorablePeer (width_in T.header) p → FitTable (placed T k p)
unfolding placed recounted with_peer used_count open_count good_count
fit-placed T k p f v i =
    let h = f.header.shape in
    let u : used_count (with_peer T k p) ≤ slots T = count-le (λ j. in_use (slot (with_peer T k p) j)) (slots T) in
    let o : open_count (with_peer T k p) ≤ slots T = count-le (λ j. is_open (slot (with_peer T k p) j)) (slots T) in
    let g : good_count (with_peer T k p) ≤ slots T = count-le (λ j. is_good (slot (with_peer T k p) j)) (slots T) in
    record {
      header = record {
        shape = record {
          geometry = h.geometry;
          counts = record { used = omega (arith, u, h.geometry.slots); opened = omega (arith, o, h.geometry.slots); good = omega (arith, g, h.geometry.slots) };
          spare = h.spare;
          own = h.own;
          settings = h.settings;
        };
        own = f.header.own;
      };
      peers = fits-set k f.peers v i;
    }

-- and its octets are octets
pub bytes-placed : (t : List ℕ) (n k : ℕ) (p : Peer) → Bytes t → length t ≡ record_at (width_of t) n → FitPeer width p → StorablePeer (width_in (decode_table t).header) p → Bytes (encode_table (placed (decode_table t) k p))
bytes-placed t n k p b h f g = bytes-table (placed (decode_table t) k p) (fit-placed (decode_table t) k p (fit-decoded t n b h) f g)

fits-at : {W : ℕ} {ps : List Peer} (k : ℕ) → Fits W ps → k < length ps → FitPeer width (get_or ps k no_peer)
fits-at k none h = absurd (omega arith)
fits-at zero (more f g r) h = f
fits-at (suc k) (more f g r) h = fits-at k r (omega arith)

-- every slot of what octets say fits
pub fit-slot : (T : Table) (k : ℕ) → FitTable T → k < length T.peers → FitPeer width (slot T k)
unfolding slot
fit-slot T k f h = fits-at k f.peers h
