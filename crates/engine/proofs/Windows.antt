-- A step in a slot, and the end of a call.
use Rattle.std.specs.Prelude.{Option, Some, None}
use mathlib.Core.Path.{◌≡◌, refl, sym, ap, ◌∙◌, subst}
use mathlib.Core.Bool.{false}
use mathlib.Core.List.{List}
use Prim.Native.Nat.{ℕ, ◌+◌, ◌-◌, ◌≤◌}
use native.Mathlib.Omega.{arith}
use lib.ListN.{length}
use borrow.Rule.Slice.PartMut.{put_mid}
use Rattle.octets.specs.Octets.{Bytes, put}
use Rattle.octets.proofs.Laws.{mid-put}
use Rattle.groups.specs.Groups.{width}
use Rattle.record.specs.declared.Header.{Header}
use Rattle.record.specs.declared.Peer.{Peer}
use Rattle.record.specs.Layout.{width_in, decode_peer, record_size, record_at}
use Rattle.table.specs.Table.{width_of, decode_table, slots, slot, look_by, with_peer, recounted, encode_table, standing_of, Changed}
use Rattle.table.specs.declared.Standing.{Standing}
use Rattle.table.proofs.Changed.{with-peer-decoded, changed}
use Rattle.rules.specs.declared.Said.{Said}
use Rattle.rules.specs.Book.{Step}
use Rattle.rules.specs.Said.{Does, saying}
use Rattle.answers.specs.Answers.{Report, Leaves, Seated, seating, answered, finishes}
use Rattle.answers.proofs.Laws.{free-record, finish-law}
use Rattle.engine.specs.InSlot.{Held, DoesAt}
use Rattle.engine.proofs.Headers.{held-ready, held-reached, window, window-is}

module _ (t : List ℕ) (h : Header) (k : ℕ) (H : Held t h (Some k)) where
  module _ (w : ℕ) (ew : (w ≡ width_in h) × (w ≤ width)) (a n : ℕ) (ea : a ≡ record_at w k) (en : n ≡ record_size w) where
    -- what a rule leaves in the slot's octets
    pub at-does : (y : List ℕ) (x : Said) (s : Step) → length y ≡ a + n - a → Does w x y s → DoesAt x (put_mid a (a + n - a) t y) t k s
    at-does y x s l d =
        let z : w ≡ width_of t = (held-reached t h k H w ew).told in
        let m : length y ≡ record_size w = omega arith in
        let R = held-ready t h k H in
        record {
          leaves =
              ap decode_table (mid-put a _ t y l ∙ ap (λ (b : ℕ). put t b y) (ea ∙ ap (λ (W : ℕ). record_at W k) z))
              ∙ with-peer-decoded t y (slots (decode_table t)) k R.whole R.below (m ∙ ap record_size z)
              ∙ ap (with_peer (decode_table t) k) (ap (λ (W : ℕ). decode_peer W y) (sym z) ∙ d.leaves);
          says = d.says;
        }

    -- the same of a step of the record that lies there, and of the header's width
    pub at-step : (S : ℕ → Peer → Step) (y : List ℕ) (x : Said) → length y ≡ a + n - a → Does w x y (S w (decode_peer w (window t a n)))
        → DoesAt x (put_mid a (a + n - a) t y) t k (S (width_in h) (slot (decode_table t) k))
    at-step S y x l d =
        at-does y x (S (width_in h) (slot (decode_table t) k)) l
        (subst (λ (W : ℕ). Does w x y (S W (slot (decode_table t) k))) ew.0 (subst (λ (p : Peer). Does w x y (S w p)) (window-is t h k H w ew a n ea en) d))

  -- what the counts ask once it is done
  pub slot-changed : (u : List ℕ) (x : Said) (s : Step) (was : Standing) → length u ≡ length t → DoesAt x u t k s → was ≡ standing_of (slot (decode_table t) k) → Changed u k h was
  slot-changed u x s was l d e = rw e (changed t u k s.peer h (held-ready t h k H) H.header l d.leaves)

-- the same step for the groups as they are lent
pub listed-step : (x : Said) (u t : List ℕ) (k : ℕ) (S : List ℕ → Step) (gs hs : List ℕ) → gs ≡ hs → DoesAt x u t k (S gs) → DoesAt x u t k (S hs)
listed-step x u t k S gs hs e d = subst (λ (l : List ℕ). DoesAt x u t k (S l)) e d

-- the record of a seat: the slot's, which is free for a new peer
pub look-seat : (t : List ℕ) (f : Option ℕ) (k : ℕ) → Bytes t → Seated t f → seating (decode_table t) f ≡ Some k → look_by (decode_table t) f ≡ slot (decode_table t) k
unfolding look_by seating
look-seat t (Some j) k b S e = let y : j ≡ k = cc in ap (slot (decode_table t)) y
look-seat t None k b S e = sym (free-record t k b S.whole e)

-- the end of a call whose step is s, which the code made as s' in slot k
pub seat-done : (t : List ℕ) (f : Option ℕ) (k : ℕ) (u v a : List ℕ) (x : Said) (s s' : Step) (r : Report) → seating (decode_table t) f ≡ Some k → s.refused ≡ false → s ≡ s'
    → DoesAt x u t k s' → (r ≡ answered x a) × (v ≡ encode_table (recounted (decode_table u))) → Leaves r v (finishes t f s a)
seat-done t f k u v a x s s' r e n q d w =
    finish-law t a f s r u v k x n e (d.leaves ∙ ap (λ (y : Step). with_peer (decode_table t) k y.peer) (sym q)) (d.says ∙ ap saying (sym q)) w.0 w.1

-- the same, of a record that is there
pub slot-done : (t : List ℕ) (k : ℕ) (u v a : List ℕ) (x : Said) (s : Step) (r : Report) → s.refused ≡ false → DoesAt x u t k s
    → (r ≡ answered x a) × (v ≡ encode_table (recounted (decode_table u))) → Leaves r v (finishes t (Some k) s a)
unfolding seating
slot-done t k u v a x s r n d w = seat-done t (Some k) k u v a x s s r refl n refl d w
