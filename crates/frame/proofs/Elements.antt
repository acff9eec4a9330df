-- Laws of the test for whole elements: one element a step from any offset, and that it holds of the octets of elements and of no others.
use mathlib.Core.Path.{◌≡◌, refl, sym, ap, ◌∙◌}
use mathlib.Core.Bool.{true, false}
use mathlib.Core.List.{List, [], ◌∷◌, ◌++◌}
use Prim.Native.Nat.{ℕ, zero, suc, ◌+◌, ◌-◌, ◌≤◌, ◌<◌}
use native.Mathlib.Omega.{arith}
use lib.ListN.{length, take, drop, length-append, length-drop, drop_of_length-le, take-append-drop}
use lib.Seq.{drop_at, drop-drop, length-take-le}
use Rattle.octets.specs.Octets.{part, num}
use Rattle.frame.specs.Frame.{whole_after, whole_elements}
use Rattle.frame.specs.Elements.{Element, elements_octets, Elements}

-- ---- contents, then whole elements

pub after : (n : ℕ) (s : List ℕ) → n ≤ length s → whole_after n s ≡ whole_elements (drop n s)
unfolding whole_after whole_elements
after zero s h = refl
after (suc n) [] h = absurd (omega arith)
after (suc n) (x ∷ s) h = after n s (omega arith)

pub cut : (n : ℕ) (s : List ℕ) → length s < n → whole_after n s ≡ false
unfolding whole_after
cut zero s h = absurd (omega arith)
cut (suc n) [] h = refl
cut (suc n) (x ∷ s) h = cut n s (omega arith)

-- ---- one element

-- the length that an element says, as it is read
second : (x n : ℕ) (s : List ℕ) → num (take 1 (drop 1 (x ∷ n ∷ s))) ≡ n
unfolding num
second x n s = omega arith

lone : (s : List ℕ) → 1 ≤ length s → length s < 2 → whole_elements s ≡ false
unfolding whole_elements whole_after
lone [] h k = absurd (omega arith)
lone (x ∷ []) h k = refl
lone (x ∷ y ∷ s) h k = absurd (omega arith)

short : (s : List ℕ) (m : ℕ) → 2 ≤ length s → m ≡ num (take 1 (drop 1 s)) → length s - 2 < m → whole_elements s ≡ false
unfolding whole_elements whole_after
short [] m h e k = absurd (omega arith)
short (x ∷ []) m h e k = absurd (omega arith)
short (x ∷ n ∷ s) m h e k = let i : m ≡ n = e ∙ second x n s in cut n s (omega arith)

first : (x n : ℕ) (s : List ℕ) → whole_elements (x ∷ n ∷ s) ≡ whole_after n s
unfolding whole_elements whole_after
first x n s = refl

next : (s : List ℕ) (m : ℕ) → 2 ≤ length s → m ≡ num (take 1 (drop 1 s)) → m ≤ length s - 2 → whole_elements s ≡ whole_elements (drop m (drop 2 s))
next [] m h e k = absurd (omega arith)
next (x ∷ []) m h e k = absurd (omega arith)
next (x ∷ n ∷ s) m h e k =
    let i : m ≡ n = e ∙ second x n s in
    first x n s ∙ after n s (omega arith) ∙ ap (λ (j : ℕ). whole_elements (drop j s)) (sym i)

-- ---- from an offset

module _ (s : List ℕ) (at : ℕ) where
  pub whole-end : length s ≤ at → whole_elements (drop at s) ≡ true
  unfolding whole_elements whole_after
  whole-end h = rw (drop_of_length-le s {i = at} h)

  pub whole-lone : at < length s → length s - at < 2 → whole_elements (drop at s) ≡ false
  whole-lone h k = lone (drop at s) (omega (arith, length-drop at s)) (omega (arith, length-drop at s))

  module _ (m : ℕ) (e : m ≡ num (part s (at + 1) 1)) (h : 2 ≤ length s - at) where
    said : m ≡ num (take 1 (drop 1 (drop at s)))
    unfolding part
    said = e ∙ ap (λ (r : List ℕ). num (take 1 r)) (sym (drop-drop 1 at s))

    pub whole-short : length s - at - 2 < m → whole_elements (drop at s) ≡ false
    whole-short k = short (drop at s) m (omega (arith, length-drop at s)) said (omega (arith, length-drop at s))

    pub whole-next : m ≤ length s - at - 2 → whole_elements (drop at s) ≡ whole_elements (drop (at + 2 + m) s)
    whole-next k =
        next (drop at s) m (omega (arith, length-drop at s)) said (omega (arith, length-drop at s))
        ∙ ap whole_elements (ap (drop m) (drop-drop 2 at s) ∙ drop-drop m (at + 2) s)

-- ---- by the elements

-- the octets of elements are whole
pub elements-whole : (es : List Element) → whole_elements (elements_octets es) ≡ true
unfolding whole_elements whole_after elements_octets
elements-whole [] = refl
elements-whole (e ∷ es) = after (length e.contents) (e.contents ++ elements_octets es) (omega (arith, length-append e.contents (elements_octets es)))
    ∙ ap whole_elements (drop_at e.contents (elements_octets es) (length e.contents) refl) ∙ elements-whole es

pub elements-are : (s : List ℕ) → Elements s → whole_elements s ≡ true
elements-are s w = ap whole_elements w.octets ∙ elements-whole w.elements

no : false ≡ true → ⊥
no e = let z : ◌≡◌ {A = ℕ} 0 1 = cc in omega arith

-- what is whole after n octets of contents has them, and elements behind them
run-after : (n : ℕ) (s : List ℕ) → whole_after n s ≡ true → (n ≤ length s) × Elements (drop n s)
unfolding whole_after elements_octets
run-after zero [] e = (omega arith, record { elements = []; octets = refl })
run-after (suc n) [] e = absurd (no e)
run-after (suc n) (x ∷ s) e = let w = run-after n s e in (omega (arith, w.0), w.1)
run-after zero (x ∷ []) e = absurd (no e)
run-after zero (x ∷ n ∷ s) e =
    let w = run-after n s e in
    let i : length (take n s) ≡ n = length-take-le n s w.0 in
    let o : take n s ++ elements_octets w.1.elements ≡ s = ap (λ (r : List ℕ). take n s ++ r) (sym w.1.octets) ∙ take-append-drop n s in (
      omega arith,
      record {
        elements = record { identifier = x; contents = take n s } ∷ w.1.elements;
        octets = sym (rw (i, o));
      },
    )

-- and what is whole is the octets of elements
pub whole-elements : (s : List ℕ) → whole_elements s ≡ true → Elements s
unfolding whole_elements
whole-elements s e = (run-after 0 s e).1
