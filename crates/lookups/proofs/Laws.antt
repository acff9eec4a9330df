-- Laws of the lookups: what each function's cases show of their definitions.
use Rattle.std.proofs.Common.{◌≡◌, ℕ, ◌+◌, ◌-◌, ◌%◌, ◌^◌, ◌<◌, ◌≤◌, Bool, true, false, List, refl, ap, ◌∙◌, add-one, arith, Ok, Err, Option, Some, None, Result}
use Rattle.std.specs.Prelude.{ltb, min}
use mathlib.Core.Logic.{inl, inr}
use Rattle.octets.proofs.Scan.{cases}
use borrow.Author.Tests.{ltb-true, ltb-false}
use Rattle.record.specs.declared.Header.{Header}
use Rattle.record.specs.declared.Peer.{Peer}
use Rattle.rules.specs.Book.{due, ◌isnt◌}
use Rattle.groups.specs.Groups.{width}
use Rattle.record.specs.Layout.{width_in, record_at}
use Rattle.table.specs.Table.{width_of, decode_table, slots, slot, entry, checked, entering, Looked, Enters}
use Rattle.table.specs.declared.Entrance.{Entrance}
use Rattle.table.proofs.Laws.{unsound, enters-refused, entry_ready, width-told, record-bound}
use Rattle.lookups.specs.Lookups.{no_deadline, time_left, left_if, lesser, peer_left, least_below, next_deadline, asks_deadline, offset_by, asks_offset}
use Rattle.causes.specs.declared.Refusal.{Refusal}

-- ---- the next deadline

module _ (time at : ℕ) (b : Bool) (e : b ≡ due time at) where
  pub left-due : b ≡ true → 0 ≡ time_left time at
  unfolding time_left
  left-due q = rw (← e, q)

  pub left-ahead : (r : ℕ) → b ≡ false → r ≡ (at + 2 ^ 32 - time) % 2 ^ 32 → r ≡ time_left time at
  unfolding time_left
  left-ahead r q k = rw (← e, q) k

pub peer-law : (p : Peer) (time state t0 finished t1 run link r : ℕ) → state ≡ p.run.state → t0 ≡ p.run.t0 → finished ≡ p.link.finished → t1 ≡ p.link.t1
    → run ≡ left_if (state isnt 0) time t0 → link ≡ left_if (finished isnt 0) time t1 → r ≡ lesser run link → r ≡ peer_left p time
unfolding peer_left
peer-law p time state t0 finished t1 run link r es e0 ef e1 er el e = rw (← es, ← e0, ← ef, ← e1, ← er, ← el) e

module _ (f : ℕ → ℕ) where
  pub least-none : no_deadline ≡ least_below f 0
  unfolding least_below
  least-none = refl

  pub least_more : (i least left r : ℕ) → least ≡ least_below f i → left ≡ f i → r ≡ lesser least left → r ≡ least_below f (i + 1)
  unfolding least_below
  least_more i least left r p q e = rw (add-one, ← p, ← q) e

  pub least-through : (n i r : ℕ) → i ≤ n → n ≤ i → r ≡ least_below f i → r ≡ least_below f n
  least-through n i r h k p = let e : i ≡ n = omega arith in rw e at p

pub asks-refused : (t : List ℕ) (time : ℕ) (c : Refusal) (r : Result ℕ Refusal) → r ≡ Err c → checked t ≡ Err c → r ≡ asks_deadline t time
unfolding asks_deadline
asks-refused t time c r k e = let u = unsound t c e in k ∙ rw u.0 (ap Err u.1)

pub asks-least : (t : List ℕ) (time : ℕ) (h : Header) → Looked t h → (left : ℕ)
    → left ≡ least_below (λ k. peer_left (slot (decode_table t) k) time) h.geometry.slots → Ok left ≡ asks_deadline t time
unfolding asks_deadline next_deadline
asks-least t time h L left e =
    let n : h.geometry.slots ≡ slots (decode_table t) = ap (λ (g : Header). g.geometry.slots) L.header in
    rw L.whole (ap Ok (e ∙ ap (least_below (λ k. peer_left (slot (decode_table t) k) time)) n))

-- ---- where a record lies

pub none-found : (f : Option ℕ) → ((k : ℕ) → f ≡ Some k → ⊥) → f ≡ None
none-found None d = refl
none-found (Some k) d = absurd (d k refl)

module _ (t a : List ℕ) where
  pub offset-refused : (c : Refusal) (r : Result ℕ Refusal) → r ≡ Err c → entering t a ≡ Err c → r ≡ asks_offset t a
  unfolding asks_offset offset_by
  offset-refused c r k e = k ∙ rw (enters-refused t a c e)

  module _ (r : Entrance) (E : Enters r t a) where
    pub offset-absent : r.slot ≡ None → Ok 0 ≡ asks_offset t a
    unfolding asks_offset offset_by
    offset-absent q = rw (E.entry ∙ ap Ok q)

    module _ (k : ℕ) (q : r.slot ≡ Some k) where
      here : entry t a ≡ Ok (Some k)
      here = E.entry ∙ ap Ok q

      pub offset-small : (w : ℕ) → w ≤ width → record_at w k < 2 ^ 32
      offset-small w m = let r = entry_ready t a k here in record-bound w k m (omega (arith, r.below, r.small))

      pub offset_at : (w : ℕ) → w ≡ width_in r.header → (n : ℕ) → n ≡ record_at w k → Ok n ≡ asks_offset t a
      unfolding asks_offset offset_by
      offset_at w ew n en =
          let z : w ≡ width_of t = width-told t r.header w E.looked.header ew in
          rw here (ap Ok (en ∙ ap (λ (W : ℕ). record_at W k) z))

-- the lesser of two, as std has it
pub min-lesser : (a b : ℕ) → min a b ≡ lesser a b
min-lesser a b = elim (cases (ltb b a)) [
  | inl p ↦ let h : b < a = ltb-true _ _ p in rw p (omega arith)
  | inr p ↦ let h : a ≤ b = ltb-false _ _ p in rw p (omega arith)
]
