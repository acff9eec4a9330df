-- A Confirm and what follows its 40 octets: of a frame that was read, and of octets put behind one.
use Rattle.std.specs.Prelude.{Some, None}
use mathlib.Core.Path.{◌≡◌, refl, sym, ap, ◌∙◌}
use mathlib.Core.Bool.{Bool, true, false}
use mathlib.Core.List.{List, ◌++◌}
use Prim.Native.Nat.{ℕ, ◌+◌, ◌≤◌, ◌<◌}
use native.Mathlib.Omega.{arith}
use native.Mathlib.Nat.{zero-add}
use lib.Dec.{ltb}
use lib.ListN.{length, take, drop, length-append, take-append-drop}
use lib.Seq.{take_at, drop_at, length-take-le}
use borrow.Author.Tests.{ltb-true, ltb-false}
use Rattle.octets.specs.Octets.{part, num}
use Rattle.octets.proofs.Laws.{part-part}
use Rattle.frame.specs.declared.Body.TheVariants.{Confirm}
use Rattle.frame.specs.Frame.{field, algorithm_of, sequence_of, status_of, counter_of, whole_elements, elements_of, read_body, value_of}
use Rattle.frame.specs.Elements.{Elements, Trailing, Followed}
use Rattle.frame.proofs.Elements.{whole-end, whole-elements, elements-are}
use Rattle.frame.proofs.Reading.{confirm-cut, confirm-read, body-long, body-confirm}
use Rattle.frame.proofs.Shapes.{ConfirmShape, confirm-shape}

-- ---- the first 40 octets

part-first : (s : List ℕ) (at n : ℕ) → at + n ≤ 40 → part (take 40 s) at n ≡ part s at n
unfolding part
part-first s at n h = part-part s 0 40 at n h ∙ ap (λ (i : ℕ). part s i n) (zero-add at)

field-first : (s : List ℕ) (at : ℕ) → at + 2 ≤ 40 → field (take 40 s) at ≡ field s at
field-first s at h = ap num (part-first s at 2 h)

-- what a body has at its start if it is a status 0 Confirm
record Starts (s : List ℕ) (n : ℕ) : Type 0 where
  algorithm : algorithm_of s ≡ 3
  sequence : sequence_of s ≡ 2
  status : status_of s ≡ 0
  counter : counter_of s ≡ n
  total : 40 ≤ length s

starts : (s : List ℕ) (n : ℕ) → ConfirmShape s n → Starts s n
starts s n w = record { algorithm = w.head.algorithm; sequence = w.sequence; status = w.status; counter = w.counter; total = w.total }

-- 40 octets start alike, alone and at the start of others
starts_first : (s : List ℕ) (n : ℕ) → Starts s n → Starts (take 40 s) n
starts_first s n w =
    let l : length (take 40 s) ≡ 40 = length-take-le 40 s w.total in
    record {
      algorithm = field-first s 0 (omega arith) ∙ w.algorithm;
      sequence = field-first s 2 (omega arith) ∙ w.sequence;
      status = field-first s 4 (omega arith) ∙ w.status;
      counter = field-first s 6 (omega arith) ∙ w.counter;
      total = omega arith;
    }

starts_with : (s e : List ℕ) (n : ℕ) → length s ≡ 40 → Starts s n → Starts (s ++ e) n
starts_with s e n l w =
    let t : take 40 (s ++ e) ≡ s = take_at s e 40 l in
    record {
      algorithm = back t 0 (omega arith) w.algorithm;
      sequence = back t 2 (omega arith) w.sequence;
      status = back t 4 (omega arith) w.status;
      counter = back t 6 (omega arith) w.counter;
      total = omega (arith, length-append s e);
    }
  where
    back : take 40 (s ++ e) ≡ s → (at : ℕ) → at + 2 ≤ 40 → {m : ℕ} → field s at ≡ m → field (s ++ e) at ≡ m
    back t at h k = sym (field-first (s ++ e) at h) ∙ ap (λ (r : List ℕ). field r at) t ∙ k

-- ---- read, or not, by what follows

module _ (s : List ℕ) (n : ℕ) (w : Starts s n) (gs : List ℕ) where
  reads : length s ≤ 2304 → whole_elements (elements_of s) ≡ true → read_body gs s ≡ Some (Confirm n)
  unfolding elements_of
  reads h e =
      sym (body-confirm gs s 3 (omega (arith, w.total)) h (sym w.algorithm) 2 (sym w.sequence) refl _ refl
      (confirm-read s 0 (sym w.status) refl w.total 8 true refl (sym e) n refl (sym w.counter)))

  too_long : 2304 < length s → read_body gs s ≡ None
  too_long h = sym (body-long gs s (omega arith) h)

  cut_off : whole_elements (elements_of s) ≡ false → read_body gs s ≡ None
  unfolding elements_of
  cut_off e = go (ltb 2304 (length s)) refl
    where
      go : (b : Bool) → ltb 2304 (length s) ≡ b → read_body gs s ≡ None
      go true p = too_long (ltb-true _ _ p)
      go false p =
          sym (body-confirm gs s 3 (omega (arith, w.total)) (ltb-false _ _ p) (sym w.algorithm) 2 (sym w.sequence) refl _ refl
          (confirm-cut s 0 (sym w.status) refl w.total 8 false refl (sym e) refl))

-- ---- the promises

pub trailing : (gs s : List ℕ) (n : ℕ) → read_body gs s ≡ Some (Confirm n) → Trailing s n
unfolding elements_of value_of
trailing gs s n e =
    let w = confirm-shape gs s n e in
    let l : length (take 40 s) ≡ 40 = length-take-le 40 s w.total in
    record {
      read = λ hs. reads s n (starts s n w) hs w.head.longest w.elements;
      first = λ hs. reads (take 40 s) n (starts_first s n (starts s n w)) hs (omega arith) (whole-end (take 40 s) 40 (omega arith));
      value = part-first s 8 32 (omega arith);
      parts = take-append-drop 40 s;
      elements = whole-elements (drop 40 s) w.elements;
      longest = w.head.longest;
    }

pub followed : (gs s e : List ℕ) (n : ℕ) → read_body gs s ≡ Some (Confirm n) → length s ≡ 40 → Followed s e n
unfolding elements_of
followed gs s e n r l =
    let w = starts_with s e n l (starts s n (confirm-shape gs s n r)) in
    let d : drop 40 (s ++ e) ≡ e = drop_at s e 40 l in
    let m : length (s ++ e) ≡ 40 + length e = length-append s e ∙ ap (λ (k : ℕ). k + length e) l in
    record {
      read = λ hs k h. reads (s ++ e) n w hs (omega arith) (ap whole_elements d ∙ elements-are e k);
      cut = λ hs k. cut_off (s ++ e) n w hs (ap whole_elements d ∙ neither (whole_elements e) refl k);
      long = λ hs h. too_long (s ++ e) n w hs (omega arith);
      back = d;
    }
  where
    neither : (b : Bool) → whole_elements e ≡ b → (Elements e → ⊥) → b ≡ false
    neither true p k = absurd (k (whole-elements e p))
    neither false p k = refl
