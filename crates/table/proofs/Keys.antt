-- Addresses compared as numbers: the keys of the slots are new just where the addresses differ.
use mathlib.Core.Path.{◌≡◌, refl, sym, ap, ◌∙◌}
use mathlib.Core.Logic.{◌⊎◌, inl, inr}
use mathlib.Core.Bool.{Bool, true, false, not, ◌&&◌, ◌||◌}
use mathlib.Core.List.{List}
use Prim.Native.Nat.{ℕ, zero, suc, ◌+◌, ◌≤◌, ◌<◌}
use native.Mathlib.Omega.{arith}
use native.Mathlib.Numerals.{add-one}
use native.Mathlib.Decide.{ℕ_discrete}
use lib.Dec.{eqb}
use lib.ListN.{length, take, get_or, set, length-take}
use Rattle.std.proofs.lemmas.List.{get_or-take}
use Rattle.std.specs.List.{list_all, range_with_len}
use lib.Seq.{get_or-set_same, get_or-set_other}
use borrow.Author.Tests.{eq-eqb, ne_eqb}
use Rattle.octets.specs.Octets.{num, same_address}
use Rattle.octets.specs.Scan.{all_below}
use Rattle.octets.proofs.Scan.{cases, all-ext}
use Rattle.record.specs.declared.Peer.{Peer}
use Rattle.table.specs.Table.{Table, slot, in_use, belongs, alone, key, new_key}

key-used : (p : Peer) → in_use p ≡ true → key p ≡ num p.address + 1
unfolding key
key-used p e = rw e

key-free : (p : Peer) → in_use p ≡ false → key p ≡ 0
unfolding key
key-free p e = rw e

eqb-up : (x y : ℕ) → eqb (x + 1) (y + 1) ≡ eqb x y
eqb-up x y = elim (ℕ_discrete x y) [
  | yes e ↦ eq-eqb _ _ (ap (λ (z : ℕ). z + 1) e) ∙ sym (eq-eqb _ _ e)
  | no d ↦ ne_eqb (x + 1) (y + 1) (λ q. d (up q)) ∙ sym (ne_eqb _ _ d)
]
  where
    up : x + 1 ≡ y + 1 → x ≡ y
    up q = omega arith

-- a key is that of an address just where the record holds it
key-holds : (p : Peer) (a : List ℕ) → eqb (key p) (num a + 1) ≡ belongs a p
unfolding belongs same_address
key-holds p a = go (cases (in_use p))
  where
    go : (in_use p ≡ true) ⊎ (in_use p ≡ false) → eqb (key p) (num a + 1) ≡ (in_use p && eqb (num p.address) (num a))
    go (inl u) = rw (key-used p u, u) (eqb-up (num p.address) (num a))
    go (inr u) = rw (key-free p u, u) (ne_eqb 0 (num a + 1) (λ q. omega arith))

new-alone : (T : Table) (keys : List ℕ) (n : ℕ) → ((k : ℕ) → k < n → get_or keys k 0 ≡ key (slot T k)) → (k : ℕ) → k < n → new_key keys k ≡ alone T k
unfolding new_key alone
new-alone T keys n h k l = go (cases (in_use (slot T k)))
  where
    go : (in_use (slot T k) ≡ true) ⊎ (in_use (slot T k) ≡ false)
        → (eqb (get_or keys k 0) 0 || all_below (λ j. not (eqb (get_or keys j 0) (get_or keys k 0))) k) ≡ (not (in_use (slot T k)) || all_below (λ j. not (belongs (slot T k).address (slot T j))) k)
    go (inl u) =
        let e : get_or keys k 0 ≡ num (slot T k).address + 1 = h k l ∙ key-used (slot T k) u in
        let z : eqb (num (slot T k).address + 1) 0 ≡ false = ne_eqb (num (slot T k).address + 1) 0 (λ q. omega arith) in
        rw (e, u, z) (all-ext (λ j. not (eqb (get_or keys j 0) (num (slot T k).address + 1))) (λ j. not (belongs (slot T k).address (slot T j))) k
        (λ j m. ap not (ap (λ (x : ℕ). eqb x (num (slot T k).address + 1)) (h j (omega arith)) ∙ key-holds (slot T j) (slot T k).address)))
    go (inr u) =
        let e : get_or keys k 0 ≡ 0 = h k l ∙ key-free (slot T k) u in
        rw (e, u) refl

-- what `differ_in` shows
pub addresses-law : (T : Table) (keys : List ℕ) (n : ℕ) (r : Bool) → ((k : ℕ) → k < n → get_or keys k 0 ≡ key (slot T k)) → r ≡ all_below (new_key keys) n → r ≡ all_below (alone T) n
addresses-law T keys n r h e = e ∙ all-ext (new_key keys) (alone T) n (new-alone T keys n h)

-- what `key_at` shows
pub key-yes : (p : Peer) (u : Bool) (x : ℕ) → u ≡ in_use p → u ≡ true → x ≡ num p.address → x + 1 ≡ key p
key-yes p u x e q ex = rw ex (sym (key-used p (sym e ∙ q)))

pub key-no : (p : Peer) (u : Bool) → u ≡ in_use p → u ≡ false → 0 ≡ key p
key-no p u e q = sym (key-free p (sym e ∙ q))

-- the step of the loop that fills the keys
pub keys-more : (f : ℕ → ℕ) (keys : List ℕ) (i x : ℕ) → i < length keys → ((k : ℕ) → k < i → get_or keys k 0 ≡ f k) → x ≡ f i → (k : ℕ) → k < i + 1 → get_or (set keys i x) k 0 ≡ f k
keys-more f keys i x l h e k m = elim (ℕ_discrete k i) [
  | yes q ↦ rw q (get_or-set_same keys i x 0 l ∙ e)
  | no d ↦ get_or-set_other keys i k x 0 d ∙ h k (omega arith)
]

-- the step of the loop that compares, and its end
pub any_none : (f : ℕ → Bool) → false ≡ not (all_below f 0)
unfolding all_below
any_none f = refl

pub any-more : (f : ℕ → Bool) (i : ℕ) (a b : Bool) → a ≡ not (all_below f i) → f i ≡ not b → (a || b) ≡ not (all_below f (i + 1))
unfolding all_below
any-more f i a b p q = rw (add-one, p, q) (go (all_below f i) b)
  where
    go : (x y : Bool) → (not x || y) ≡ not (x && not y)
    go true true = refl
    go true false = refl
    go false y = refl

pub new-zero : (keys : List ℕ) (k x : ℕ) → x ≡ get_or keys k 0 → x ≡ 0 → true ≡ new_key keys k
unfolding new_key
new-zero keys k x e z = let q : get_or keys k 0 ≡ 0 = sym e ∙ z in sym (rw q refl)

pub new-law : (keys : List ℕ) (k j x : ℕ) (any : Bool) → x ≡ get_or keys k 0 → (x ≡ 0 → ⊥) → j ≤ k → k ≤ j → any ≡ not (all_below (λ i. not (eqb (get_or keys i 0) x)) j) → not any ≡ new_key keys k
unfolding new_key
new-law keys k j x any e d h l p =
    let q : j ≡ k = omega arith in
    let z : eqb (get_or keys k 0) 0 ≡ false = ne_eqb _ _ (λ w. d (e ∙ w)) in
    rw (p, q, e, z) (twice _)
  where
    twice : (b : Bool) → not (not b) ≡ b
    twice true = refl
    twice false = refl

-- the keys before are those that are looked at
pub keys-before : (keys : List ℕ) (k j x : ℕ) (any : Bool) → j < length (take k keys) → any ≡ not (all_below (λ i. not (eqb (get_or keys i 0) x)) j)
    → (any || eqb (get_or (take k keys) j 0) x) ≡ not (all_below (λ i. not (eqb (get_or keys i 0) x)) (j + 1))
keys-before keys k j x any h p =
    let m : length (take k keys) ≤ k = simp length-take (omega arith) in
    let e : get_or (take k keys) j 0 ≡ get_or keys j 0 = get_or-take k keys j 0 (omega arith) in
    rw e (any-more (λ i. not (eqb (get_or keys i 0) x)) j any (eqb (get_or keys j 0) x) p refl)

-- a test of every number below a bound, one after the other from the first
all-first : (f : ℕ → Bool) (n : ℕ) → (f 0 && all_below (λ k. f (suc k)) n) ≡ all_below f (suc n)
unfolding all_below
all-first f zero = swap (f 0)
  where
    swap : (a : Bool) → (a && true) ≡ (true && a)
    swap true = refl
    swap false = refl
all-first f (suc n) = assoc (f 0) (all_below (λ k. f (suc k)) n) (f (suc n)) ∙ ap (λ (b : Bool). b && f (suc n)) (all-first f n)
  where
    assoc : (a b c : Bool) → (a && (b && c)) ≡ ((a && b) && c)
    assoc true b c = refl
    assoc false b c = refl

all-from : (f : ℕ → Bool) (a n : ℕ) → list_all f (range_with_len a n) ≡ all_below (λ k. f (a + k)) n
unfolding all_below
all-from f a zero = refl
all-from f a (suc n) =
    let e : a + 0 ≡ a = omega arith in
    let g : all_below (λ k. f (a + 1 + k)) n ≡ all_below (λ k. f (a + suc k)) n = all-ext _ _ n (λ k h. let q : a + 1 + k ≡ a + suc k = omega arith in ap f q) in
    ap (λ (b : Bool). f a && b) (all-from f (a + 1) n ∙ g) ∙ ap (λ (m : ℕ). f m && all_below (λ k. f (a + suc k)) n) (sym e) ∙ all-first (λ k. f (a + k)) n

pub all-range : (f : ℕ → Bool) (n : ℕ) → list_all f (range_with_len 0 n) ≡ all_below f n
all-range f n = all-from f 0 n ∙ all-ext _ _ n (λ k h. let q : 0 + k ≡ k = omega arith in ap f q)
