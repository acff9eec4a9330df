-- What a search is handed to climb a ladder: the value of each test, also where a number was read from the record by a call.
use mathlib.Core.Path.{◌≡◌, refl, sym, ap, ◌∙◌, subst}
use mathlib.Core.Bool.{Bool, true, false, not, ◌&&◌}
use mathlib.Core.List.{List}
use Prim.Native.Nat.{ℕ, ◌≤◌, ◌<◌}
use lib.Dec.{eqb, ltb}
use lib.ListN.{length, take}
use borrow.Author.Tests.{eq-eqb, ne_eqb, lt-ltb, le-ltb, not-true, not-false}
use Rattle.octets.specs.Octets.{part, same}
use Rattle.groups.specs.Groups.{width, scalar_length, stored, Storable}
use Rattle.groups.proofs.Laws.{cut-stored, cut-long, same-stored}
use Rattle.record.specs.declared.Link.{Link}
use Rattle.rules.specs.Book.{holds, linked_with}
use Rattle.rules.specs.Message.{Message}

-- a number against one that a call read
pub like-read : (x y r : ℕ) → r ≡ y → x ≡ r → eqb x y ≡ true
like-read x y r e t = eq-eqb x y (t ∙ e)

pub unlike-read : (x y r : ℕ) → r ≡ y → (x ≡ r → ⊥) → eqb x y ≡ false
unlike-read x y r e d = ne_eqb x y (λ q. d (q ∙ sym e))

-- "finished link with that group and peer scalar", test by test
module _ (l : Link) (m : Message) (finished group : ℕ) (x : Bool) where
  pub no-link : finished ≡ l.finished → finished ≡ 0 → false ≡ linked_with l m
  unfolding linked_with
  no-link e z = rw (eq-eqb l.finished 0 (sym e ∙ z)) refl

  pub other-link : finished ≡ l.finished → (finished ≡ 0 → ⊥) → group ≡ l.group → (group ≡ m.group → ⊥) → false ≡ linked_with l m
  unfolding linked_with
  other-link e z g d = rw (ne_eqb l.finished 0 (λ q. z (e ∙ q)), ne_eqb l.group m.group (λ q. d (g ∙ q))) refl

  pub this-link :
      (heard : List ℕ) → finished ≡ l.finished → (finished ≡ 0 → ⊥) → group ≡ l.group → group ≡ m.group → heard ≡ m.commit →
      x ≡ same (part heard 0 (scalar_length m.group)) (part l.peer 0 (scalar_length m.group)) → x ≡ linked_with l m
  unfolding linked_with
  this-link heard e z g d c q = rw (ne_eqb l.finished 0 (λ q. z (e ∙ q)), eq-eqb l.group m.group (sym g ∙ d), ← c) q

-- the scalar, of two commits where they lie
pub same-scalar-law :
    (heard peer commit : List ℕ) (group n : ℕ) (x : Bool) → n ≡ scalar_length group → stored peer ≡ commit →
    x ≡ same (part (stored heard) 0 n) (part (stored peer) 0 n) → x ≡ same (part (stored heard) 0 (scalar_length group)) (part commit 0 (scalar_length group))
same-scalar-law heard peer commit group n x e c q = rw (← e, ← c) q

-- a commit against our own, both where they lie: what its width cuts off is zero
pub same-commit-law :
    (heard commit lies own : List ℕ) (W : ℕ) (x : Bool) → W ≤ width → length heard ≤ width → stored heard ≡ commit → Storable W commit → length lies ≡ W → stored lies ≡ own →
    x ≡ same (part (stored heard) 0 W) (part (stored lies) 0 W) → x ≡ same commit own
unfolding part
same-commit-law heard commit lies own W x w h e s l o q =
    let n : length (take W (stored heard)) ≡ length lies = cut-long W heard w h ∙ sym l in
    let f : stored (take W (stored heard)) ≡ commit = ap (λ (c : List ℕ). stored (take W c)) e ∙ s.same in
    q ∙ ap (same (take W (stored heard))) (cut-stored lies W l) ∙ sym (same-stored (take W (stored heard)) lies n) ∙ ap (λ (c : List ℕ). same c (stored lies)) f ∙ ap (same commit) o

-- "wrong token": not asked unless Open is at or above the threshold
pub unasked : (crowded wrong : Bool) → not crowded ≡ true → false ≡ (crowded && wrong)
unasked crowded wrong e = rw (not-true crowded e) refl

pub asked : (crowded wrong : Bool) → not crowded ≡ false → wrong ≡ (crowded && wrong)
asked crowded wrong e = rw (not-false crowded e) refl

pub wrong-law :
    (crowded like : Bool) (n : ℕ) (token heard expected : List ℕ) → not crowded ≡ false → heard ≡ token → like ≡ same (take n heard) expected →
    not like ≡ (crowded && not (same (take n token) expected))
wrong-law crowded like n token heard expected e h q = ap not (q ∙ ap (λ (x : List ℕ). same (take n x) expected) h) ∙ asked crowded (not (same (take n token) expected)) e

-- a number that a call read, against a constant
pub read_is : (x r k : ℕ) → r ≡ x → r ≡ k → eqb x k ≡ true
read_is x r k e t = eq-eqb x k (sym e ∙ t)

pub read-isnt : (x r k : ℕ) → r ≡ x → (r ≡ k → ⊥) → eqb x k ≡ false
read-isnt x r k e d = ne_eqb x k (λ q. d (e ∙ q))

pub read_above : (x r k : ℕ) → r ≡ x → k < r → ltb k x ≡ true
read_above x r k e h = lt-ltb k x (subst (λ (y : ℕ). k < y) e h)

pub read-within : (x r k : ℕ) → r ≡ x → r ≤ k → ltb k x ≡ false
read-within x r k e h = le-ltb k x (subst (λ (y : ℕ). y ≤ k) e h)

-- a number above one that a call read, or not
pub over-read : (x y r : ℕ) → r ≡ y → r < x → ltb y x ≡ true
over-read x y r e h = lt-ltb y x (subst (λ (z : ℕ). z < x) e h)

pub under-read : (x y r : ℕ) → r ≡ y → x ≤ r → ltb y x ≡ false
under-read x y r e h = le-ltb y x (subst (λ (z : ℕ). x ≤ z) e h)

-- the Bool is the negation of what a call answered
pub denied-true : (b r : Bool) → r ≡ b → not r ≡ true → holds b ≡ false
unfolding holds
denied-true b r e t = sym e ∙ not-true r t

pub denied-false : (b r : Bool) → r ≡ b → not r ≡ false → holds b ≡ true
unfolding holds
denied-false b r e t = sym e ∙ not-false r t
