-- Laws of the stock: a fresh commit where it lies, and the test of the tails.
use mathlib.Core.Path.{◌≡◌, refl, sym, ap, ◌∙◌}
use mathlib.Core.Bool.{Bool, true, false, not, ◌&&◌}
use mathlib.Core.List.{List}
use Prim.Native.Nat.{ℕ, zero, suc, ◌+◌, ◌-◌, ◌*◌, ◌/◌, ◌≤◌, ◌<◌}
use native.Mathlib.Omega.{arith}
use native.Mathlib.Numerals.{add-one}
use native.Mathlib.Nat.{mul-zero, mul-suc, mul_comm, mul-le-mul, le-div_iff_mul-le}
use lib.ListN.{length, take, drop, get_or, replicate, drop_of_length-le}
use lib.Seq.{drop-cons, drop-drop}
use borrow.Author.Tests.{eqb-true, eq-eqb, ne_eqb, not-true, not-false}
use Rattle.octets.specs.Octets.{part, all_zero}
use Rattle.octets.proofs.Scan.{and_left}
use Rattle.octets.proofs.Tests.{zero-zeros, tail-part}
use Rattle.octets.proofs.Laws.{length_part}
use Rattle.groups.specs.Groups.{width, commit_length, stored, commits_of, fresh_of, fresh_at, tails_ok, fresh_ok}
use Rattle.groups.proofs.Laws.{stored-zeros, stored-length}

-- ---- a fresh commit where it lies

commits-at : (W n i : ℕ) (s : List ℕ) → i < n → get_or (commits_of W n s) i (replicate width 0) ≡ stored (part s (W * i) W)
unfolding commits_of part
commits-at W zero i s h = absurd (omega arith)
commits-at W (suc n) zero s h = rw (mul-zero W) refl
commits-at W (suc n) (suc i) s h =
    let q : W * suc i ≡ W + W * i = mul-suc W i ∙ omega arith in
    commits-at W n i (drop W s) (omega arith) ∙ ap (λ (l : List ℕ). stored (take W l)) (drop-drop (W * i) W s ∙ ap (λ (k : ℕ). drop k s) (sym q))

pub fresh-part : (W i : ℕ) (s : List ℕ) → 1 ≤ W → W * i + W ≤ length s → fresh_at (fresh_of W s) i ≡ stored (part s (W * i) W)
unfolding fresh_at fresh_of
fresh-part W i s p h =
    let q : suc i * W ≡ W * i + W = mul_comm (suc i) W ∙ mul-suc W i in
    let r : suc i * W ≤ length s = omega arith in
    let l : suc i ≤ length s / W = (le-div_iff_mul-le p).1 r in
    commits-at W (length s / W) i s l

pub fresh-at-law : (W i e : ℕ) (s : List ℕ) → 1 ≤ W → W * i + W ≤ length s → e ≡ W * i + W
    → (length (take (e - W * i) (drop (W * i) s)) ≡ W) × (stored (take (e - W * i) (drop (W * i) s)) ≡ fresh_at (fresh_of W s) i)
unfolding part
fresh-at-law W i e s p h q =
    let n : e - W * i ≡ W = omega arith in
    rw n (length_part s (W * i) W h, sym (fresh-part W i s p h))

-- ---- the octets of a commit past its length

pub past-none : (s : List ℕ) (at w n : ℕ) → at + w ≤ length s → w ≤ n → true ≡ all_zero (drop n (stored (part s at w)))
past-none s at w n h k =
    let l : length (part s at w) ≡ w = length_part s at w h in
    sym (stored-zeros (part s at w) n ∙ ap all_zero (drop_of_length-le (part s at w) {i = n} (omega arith)) ∙ zero-zeros 0)

pub past-part : (s : List ℕ) (at w n m : ℕ) (z : Bool) → n < w → w - n ≡ m → z ≡ all_zero (part s (at + n) m) → z ≡ all_zero (drop n (stored (part s at w)))
past-part s at w n m z h e q = tail-part s at n w z (omega arith) (q ∙ ap (λ (k : ℕ). all_zero (part s (at + n) k)) (sym e)) ∙ sym (stored-zeros (part s at w) n)

-- ---- the test of the tails

module _ (W : ℕ) (gs s : List ℕ) (i : ℕ) (p : 1 ≤ W) (h : i < length gs) (k : W * i + W ≤ length s) where
  tails-step : tails_ok (drop i gs) i (fresh_of W s) ≡ (all_zero (drop (commit_length (get_or gs i 0)) (fresh_at (fresh_of W s) i)) && tails_ok (drop (i + 1) gs) (i + 1) (fresh_of W s))
  unfolding tails_ok
  tails-step = rw (add-one, drop-cons gs i 0) refl

  tail_at : (n : ℕ) (z : Bool) → n ≡ commit_length (get_or gs i 0) → z ≡ all_zero (drop n (stored (part s (W * i) W))) → z ≡ all_zero (drop (commit_length (get_or gs i 0)) (fresh_at (fresh_of W s) i))
  tail_at n z e q = q ∙ ap (λ (m : ℕ). all_zero (drop m (stored (part s (W * i) W)))) e ∙ ap (λ (c : List ℕ). all_zero (drop (commit_length (get_or gs i 0)) c)) (sym (fresh-part W i s p k))

  pub tails-bad : (n : ℕ) (z : Bool) → n ≡ commit_length (get_or gs i 0) → z ≡ all_zero (drop n (stored (part s (W * i) W))) → not z ≡ true → false ≡ tails_ok (drop i gs) i (fresh_of W s)
  tails-bad n z e q b =
      let y : all_zero (drop (commit_length (get_or gs i 0)) (fresh_at (fresh_of W s) i)) ≡ false = sym (tail_at n z e q) ∙ not-true z b in
      sym (tails-step ∙ rw y refl)

  pub tails-good : (n : ℕ) (z : Bool) → n ≡ commit_length (get_or gs i 0) → z ≡ all_zero (drop n (stored (part s (W * i) W))) → not z ≡ false
      → tails_ok (drop i gs) i (fresh_of W s) ≡ tails_ok (drop (i + 1) gs) (i + 1) (fresh_of W s)
  tails-good n z e q b =
      let y : all_zero (drop (commit_length (get_or gs i 0)) (fresh_at (fresh_of W s) i)) ≡ true = sym (tail_at n z e q) ∙ not-false z b in
      tails-step ∙ rw y refl

pub tails_end : (gs : List ℕ) (fresh : List (List ℕ)) (i : ℕ) → length gs ≤ i → true ≡ tails_ok (drop i gs) i fresh
unfolding tails_ok
tails_end gs fresh i h = simp (drop_of_length-le gs h)

pub fresh-short : (W : ℕ) (gs s : List ℕ) → (length s ≡ W * length gs → ⊥) → false ≡ fresh_ok W gs s
unfolding fresh_ok
fresh-short W gs s d = rw (ne_eqb _ _ d) refl

pub fresh-long : (W : ℕ) (gs s : List ℕ) (r : Bool) → length s ≡ W * length gs → r ≡ tails_ok gs 0 (fresh_of W s) → r ≡ fresh_ok W gs s
unfolding fresh_ok
fresh-long W gs s r e q = rw (eq-eqb _ _ e) q

pub fresh-length : (W : ℕ) (gs s : List ℕ) → fresh_ok W gs s ≡ true → length s ≡ W * length gs
unfolding fresh_ok
fresh-length W gs s e = eqb-true _ _ (and_left _ _ e)

pub stock-small : (W n : ℕ) → W ≤ width → n ≤ 8 → W * n ≤ 1584
stock-small W n h k = let p : W * n ≤ width * 8 = mul-le-mul h k in omega arith

-- every fresh commit has the width of values
pub fresh-width : (W i : ℕ) (s : List ℕ) → 1 ≤ W → W ≤ width → W * i + W ≤ length s → length (fresh_at (fresh_of W s) i) ≡ width
fresh-width W i s p w h =
    let l : length (part s (W * i) W) ≡ W = length_part s (W * i) W h in
    ap length (fresh-part W i s p h) ∙ stored-length (part s (W * i) W) (omega arith)
