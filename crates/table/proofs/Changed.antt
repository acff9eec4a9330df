-- A record changed where it lies: what the octets then say, and what `recount` asks of them.
use mathlib.Core.Path.{◌≡◌, refl, sym, ap, ◌∙◌, subst}
use mathlib.Core.List.{List}
use Prim.Native.Nat.{ℕ, zero, suc, ◌+◌, ◌-◌, ◌*◌, ◌/◌, ◌≤◌, ◌<◌}
use native.Mathlib.Omega.{arith}
use native.Mathlib.Nat.{mul-zero}
use lib.ListN.{length, take, drop, set, length-drop}
use lib.Seq.{length-take-le, take_at, drop_at}
use Rattle.octets.specs.Octets.{put}
use Rattle.octets.specs.Scan.{bit}
use Rattle.octets.proofs.Laws.{length-put, part-put-before}
use Rattle.record.specs.Layout.{decode_peer, decode_header, counted, width_in, record_size, record_at}
use Rattle.record.specs.declared.Counts.{Counts}
use Rattle.record.specs.declared.Header.{Header}
use Rattle.record.specs.declared.Peer.{Peer}
use Rattle.record.proofs.Laws.{header-front, record-below}
use Rattle.table.specs.Table.{Table, width_of, peers_of, decode_table, slot, slots, in_use, is_open, is_good, used_count, open_count, good_count, counts_of, with_peer, recounted, standing_of, Changed, Ready}
use Rattle.table.proofs.Octets.{next, many, after-header, put-after, put_front}
use Rattle.table.proofs.Laws.{slot_same, used-stored, open-stored, good-stored, peers-held}

drop-put : (a b : ℕ) (s v : List ℕ) → a ≤ length s → drop a (put s (a + b) v) ≡ put (drop a s) b v
drop-put a b s v h = ap (drop a) (sym (put-after a b s v)) ∙ drop_at (take a s) _ a (length-take-le a s h)

take_put : (a b : ℕ) (s v : List ℕ) → a ≤ length s → take a (put s (a + b) v) ≡ take a s
take_put a b s v h = ap (take a) (sym (put-after a b s v)) ∙ take_at (take a s) _ a (length-take-le a s h)

-- a record's octets put is the record set
set-peers : (W n k : ℕ) (s y : List ℕ) → length s ≡ record_size W * n → k < n → length y ≡ record_size W → peers_of W n (put s (record_size W * k) y) ≡ set (peers_of W n s) k (decode_peer W y)
unfolding peers_of
set-peers W zero k s y h l e = absurd (omega arith)
set-peers W (suc n) zero s y h l e =
    rw (mul-zero (record_size W), put_front s y (record_size W) e, take_at y (drop (record_size W) s) (record_size W) e, drop_at y (drop (record_size W) s) (record_size W) e) refl
set-peers W (suc n) (suc k) s y h l e =
    let m : length (drop (record_size W) s) ≡ record_size W * n = length-drop (record_size W) s ∙ omega (arith, h, next (record_size W) n) in
    let z : record_size W ≤ length s = omega (arith, h, next (record_size W) n) in
    rw (← next (record_size W) k, take_put (record_size W) (record_size W * k) s y z, drop-put (record_size W) (record_size W * k) s y z, set-peers W n k (drop (record_size W) s) y m (omega arith) e) refl

header-put : (t y : List ℕ) (a : ℕ) → 32 ≤ a → a ≤ length t → decode_header (put t a y) ≡ decode_header t
header-put t y a l h = sym (header-front _) ∙ ap decode_header (part-put-before t a y 0 32 h l) ∙ header-front t

-- WHAT LIES IN A SLOT'S OCTETS is its record, and all else stays
pub with-peer-decoded : (t y : List ℕ) (n k : ℕ) → length t ≡ record_at (width_of t) n → k < n → length y ≡ record_size (width_of t)
    → decode_table (put t (record_at (width_of t) k) y) ≡ with_peer (decode_table t) k (decode_peer (width_of t) y)
unfolding decode_table with_peer record_at
with-peer-decoded t y n k h l e =
    let i : record_at (width_of t) k + record_size (width_of t) ≤ length t = omega (arith, record-below (width_of t) k n l, h) in
    let w : length (put t (record_at (width_of t) k) y) ≡ length t = length-put t (record_at (width_of t) k) y (omega (arith, i, e)) in
    let q : (length t - 32) / record_size (width_of t) ≡ n = many (width_of t) n (length t) h in
    let m : length (drop 32 t) ≡ record_size (width_of t) * n = length-drop 32 t ∙ omega (arith, h) in
    rw (w, header-put t y (record_at (width_of t) k) (after-header (width_of t) k) (omega (arith, i)), q, drop-put 32 (record_size (width_of t) * k) t y (omega (arith, h)), set-peers (width_of t) n k (drop 32 t) y m l e) refl

pub same_width : (t u : List ℕ) (k : ℕ) (p : Peer) → decode_table u ≡ with_peer (decode_table t) k p → width_of u ≡ width_of t
unfolding decode_table with_peer
same_width t u k p e = ap (λ (X : Table). width_in X.header) e

-- the table then is as `recount` asks, with the old record's share in the counts
pub changed : (t u : List ℕ) (k : ℕ) (p : Peer) (h : Header) → Ready t k → h ≡ (decode_table t).header → length u ≡ length t → decode_table u ≡ with_peer (decode_table t) k p
    → Changed u k h (standing_of (slot (decode_table t) k))
unfolding with_peer
changed t u k p g R eg l e =
    let n : slots (decode_table u) ≡ slots (decode_table t) = ap (λ (X : Table). slots X) e in
    let wu : width_of u ≡ width_of t = same_width t u k p e in
    let h : k < length (decode_table t).peers = omega (arith, peers-held t (slots (decode_table t)) R.whole, R.below) in
    let s : slot (with_peer (decode_table t) k p) k ≡ p = slot_same (decode_table t) k p h in
    record {
      fits = subst (λ (W : ℕ). record_at W k + record_size W ≤ length u) (sym wu) (rw l R.fits);
      whole = l ∙ R.whole ∙ (λ i. record_at (sym wu i) (sym n i));
      small = rw n R.small;
      header = eg ∙ ap (λ (X : Table). X.header) (sym e);
      used = subst (λ (X : Table). X.header.counts.used + bit (in_use (slot X k)) ≡ used_count X + bit (in_use (slot (decode_table t) k))) (sym e)
          (ap (λ (q : Peer). (decode_table t).header.counts.used + bit (in_use q)) s ∙ ap (λ (x : ℕ). x + bit (in_use p)) (ap (λ (n : Counts). n.used) R.counts) ∙ used-stored (decode_table t) k p R.below h);
      opened = subst (λ (X : Table). X.header.counts.opened + bit (is_open (slot X k)) ≡ open_count X + bit (is_open (slot (decode_table t) k))) (sym e)
          (ap (λ (q : Peer). (decode_table t).header.counts.opened + bit (is_open q)) s ∙ ap (λ (x : ℕ). x + bit (is_open p)) (ap (λ (n : Counts). n.opened) R.counts) ∙ open-stored (decode_table t) k p R.below h);
      good = subst (λ (X : Table). X.header.counts.good + bit (is_good (slot X k)) ≡ good_count X + bit (is_good (slot (decode_table t) k))) (sym e)
          (ap (λ (q : Peer). (decode_table t).header.counts.good + bit (is_good q)) s ∙ ap (λ (x : ℕ). x + bit (is_good p)) (ap (λ (n : Counts). n.good) R.counts) ∙ good-stored (decode_table t) k p R.below h);
    }

-- counts that are true stay
pub recounted-same : (T : Table) → T.header.counts ≡ counts_of T → recounted T ≡ T
unfolding recounted
recounted-same T e = λ i. record { header = counted T.header (sym e i); peers = T.peers }
