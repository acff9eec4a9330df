-- The stock of a sound table's call: each listed group has its place, a commit used afresh is no 0 group's, and it is zero past its length.
use Rattle.std.specs.Prelude.{Option, Some, None}
use mathlib.Core.Path.{◌≡◌, refl, sym, ap, ◌∙◌, subst}
use mathlib.Core.Bool.{Bool, true, false, not, ◌||◌}
use mathlib.Core.List.{List, [], ◌∷◌, ◌++◌}
use Prim.Native.Nat.{ℕ, zero, suc, ◌+◌, ◌*◌, ◌-◌, ◌≤◌, ◌<◌}
use native.Mathlib.Omega.{arith}
use native.Mathlib.Nat.{mul-suc, mul-le-mul_left, mul-div_cancel}
use lib.Dec.{eqb}
use lib.ListN.{length, take, drop, get_or, length-drop, take-append-drop}
use lib.Seq.{length-take-le}
use borrow.Author.Tests.{eq-eqb, ne_eqb}
use Rattle.octets.specs.Octets.{all_zero}
use Rattle.octets.proofs.Scan.{clash, and_left, and_right}
use Rattle.octets.proofs.Tests.{zero_is}
use Rattle.groups.specs.Groups.{width, known, listed, commit_length, stored, place, index_of, fresh_of, fresh_at, fresh_for, tails_ok, fresh_ok}
use Rattle.groups.proofs.Laws.{commit-fits, listed-place, place_at}
use Rattle.rule_laws.proofs.Keeps.{index-nth}
use Rattle.groups.proofs.Fresh.{fresh-length, fresh-width}
use Rattle.soundness.specs.Soundness.{each_once}
use Rattle.soundness.proofs.Laws.{header-groups, listed-known}
use Rattle.table.specs.Table.{sound}
use Rattle.table.proofs.Laws.{sound-header}
use Rattle.agreement.specs.Calls.{Call}
use Rattle.agreement.specs.Story.{stock_of, stock_in, groups_in}
use Rattle.agreement.proofs.Rules.{Afresh}
use Rattle.agreement.proofs.Ruled.{Stocked}

-- ---- places

pub listed_at : (gs : List ℕ) (i g : ℕ) → i < length gs → get_or gs i 0 ≡ g → listed gs g ≡ true
unfolding listed
listed_at [] i g l e = absurd (omega arith)
listed_at (x ∷ xs) zero g l e = rw (eq-eqb x g e)
listed_at (x ∷ xs) (suc i) g l e = or-true (eqb x g) (listed_at xs i g (omega arith) e)
  where
    or-true : (b : Bool) {c : Bool} → c ≡ true → (b || c) ≡ true
    or-true true e = refl
    or-true false e = e

-- ---- tails

tail_at : (gs : List ℕ) (i j : ℕ) (fresh : List (List ℕ)) → tails_ok gs j fresh ≡ true → i < length gs → all_zero (drop (commit_length (get_or gs i 0)) (fresh_at fresh (j + i))) ≡ true
unfolding tails_ok
tail_at [] i j fresh o l = absurd (omega arith)
tail_at (x ∷ xs) zero j fresh o l = let z : j + 0 ≡ j = omega arith in rw z (and_left _ _ o)
tail_at (x ∷ xs) (suc i) j fresh o l =
    let z : j + suc i ≡ suc j + i = omega arith in
    rw z (tail_at xs i (suc j) fresh (and_right (all_zero (drop (commit_length x) (fresh_at fresh j))) _ o) (omega arith))

pub padded-of : (g : ℕ) (c : List ℕ) → length c ≡ width → all_zero (drop (commit_length g) c) ≡ true → stored (take (commit_length g) c) ≡ c
unfolding stored
padded-of g c l z =
    let f = commit-fits g in
    let m : length (take (commit_length g) c) ≡ commit_length g = length-take-le (commit_length g) c (omega arith) in
    let d : length (drop (commit_length g) c) ≡ width - commit_length g = length-drop (commit_length g) c ∙ ap (λ (x : ℕ). x - commit_length g) l in
    rw m (ap (λ (x : List ℕ). take (commit_length g) c ++ x) (sym (zero_is _ _ d z)) ∙ take-append-drop (commit_length g) c)

-- the octets s are a stock of width W for the listed groups
module _ (W : ℕ) (gs s : List ℕ) (low : 1 ≤ W) (high : W ≤ width) (some : 0 < length gs) (k : (g : ℕ) → listed gs g ≡ true → known g ≡ true) (o : each_once gs ≡ true) (w : fresh_ok W gs s ≡ true) where
  abbrev fresh : List (List ℕ)
  fresh = fresh_of W s

  fresh-tails : tails_ok gs 0 fresh ≡ true
  unfolding fresh_ok
  fresh-tails = and_right (eqb (length s) (W * length gs)) _ w

  -- a commit for each listed group: the stock's length tells the width
  pub same-stock : (c : Call) → stock_of c ≡ s → stock_in gs c ≡ fresh
  same-stock c e = rw (e, fresh-length W gs s w, mul-div_cancel W some) refl

  at_length : (i : ℕ) → i < length gs → length (fresh_at fresh i) ≡ width
  at_length i l =
      let m : W * suc i ≤ W * length gs = mul-le-mul_left W l in
      fresh-width W i s low high (omega (arith, m, mul-suc W i, fresh-length W gs s w))

  padded-at : (i g : ℕ) → i < length gs → get_or gs i 0 ≡ g → stored (take (commit_length g) (fresh_at fresh i)) ≡ fresh_at fresh i
  padded-at i g l e =
      let z : 0 + i ≡ i = omega arith in
      let t : all_zero (drop (commit_length (get_or gs i 0)) (fresh_at fresh i)) ≡ true = rw z at (tail_at gs i 0 fresh fresh-tails l) in
      padded-of g (fresh_at fresh i) (at_length i l) (rw e at t)

  known_some : (g : ℕ) → listed gs g ≡ true → eqb g 0 ≡ false
  unfolding known
  known_some g l = ne_eqb g 0 (λ e. clash (k g l) (rw e))

  afresh-at : (c : Call) → stock_of c ≡ s → (i g : ℕ) → i < length gs → get_or gs i 0 ≡ g → Afresh gs c g (fresh_at fresh i)
  unfolding fresh_for
  afresh-at c e i g l q = record {
    some = known_some g (listed_at gs i g l q);
    stock = rw (same-stock c e, index-nth gs i g o l q) refl;
    padded = padded-at i g l q;
  }

  found_at : (g : ℕ) (f : Option ℕ) → place gs g ≡ f → listed gs g ≡ true → (i : ℕ) × (place gs g ≡ Some i)
  found_at g (Some i) e l = (i, e)
  found_at g None e l = absurd (clash l (listed-place gs g ∙ rw e))

  pub stocked : (c : Call) → stock_of c ≡ s → Stocked gs c
  unfolding fresh_for
  stocked c e = record {
    group = λ g l.
        let f = found_at g (place gs g) refl l in
        let q = place_at gs g f.0 f.1 in
        subst (Afresh gs c g) (rw (same-stock c e, index-nth gs f.0 g o q.0 q.1) refl) (afresh-at c e f.0 g q.0 q.1);
    place = λ i g l q. subst (λ (x : List (List ℕ)). Afresh gs c g (fresh_at x i)) (sym (same-stock c e)) (afresh-at c e i g l q);
  }

-- ---- what a sound table says of its groups

pub record Listing (gs : List ℕ) : Type 0 where
  pub known : (g : ℕ) → listed gs g ≡ true → known g ≡ true
  pub once : each_once gs ≡ true

pub sound-listing : (t : List ℕ) → sound t ≡ true → Listing (groups_in t)
sound-listing t s = let ok = sound-header t s in record { known = listed-known _ ok; once = (header-groups _ ok).once }
