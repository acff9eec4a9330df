-- What each branch of the reader's functions answers, in the order of the tests.
use mathlib.Core.Path.{◌≡◌, refl, sym, ap, ◌∙◌}
use mathlib.Core.Bool.{Bool, true, false}
use mathlib.Core.List.{List}
use Prim.Native.Nat.{ℕ, ◌+◌, ◌-◌, ◌≤◌, ◌<◌}
use native.Mathlib.Omega.{arith}
use lib.Dec.{eqb}
use lib.ListN.{length, drop}
use borrow.Author.Tests.{lt-ltb, le-ltb, eq-eqb, ne_eqb}
use Rattle.groups.specs.Groups.{commit_length, listed}
use Rattle.std.specs.Prelude.{if◌then◌else◌, Option, Some, None}
use Rattle.frame.specs.declared.Field.{Field}
use Rattle.frame.specs.declared.Head.{Head}
use Rattle.frame.specs.declared.Body.{Body}
use Rattle.frame.specs.declared.Body.TheVariants.{Commit, Unsupported, TokenRequest, GroupRefusal, OtherCommit, Confirm, OtherConfirm}
use Rattle.frame.specs.Frame.{field, field_at, algorithm_of, sequence_of, status_of, head_of, group_of, counter_of, read_listed, read_offer, read_token_request, read_group_refusal, read_commit, whole_elements, elements_of, read_confirm, read_body}

-- each number of the three that every body starts with
module _ (h : Head) (s : List ℕ) (e : h ≡ head_of s) where
  pub head-algorithm : h.algorithm ≡ algorithm_of s
  head-algorithm = ap (λ (x : Head). x.algorithm) e

  pub head-sequence : h.sequence ≡ sequence_of s
  head-sequence = ap (λ (x : Head). x.sequence) e

  pub head-status : h.status ≡ status_of s
  head-status = ap (λ (x : Head). x.status) e

  pub head-reached : h.reached ≡ 6
  head-reached = ap (λ (x : Head). x.reached) e

-- a field that was read where the reader stands, and where it stands then
module _ (f : Field) (s : List ℕ) (at k : ℕ) (e : f ≡ field_at s at) (p : at ≡ k) where
  pub field-number : f.number ≡ field s k
  field-number = ap (λ (x : Field). x.number) e ∙ ap (field s) p

  pub field-reached : f.reached ≡ k + 2
  field-reached = ap (λ (x : Field). x.reached) e ∙ ap (λ (i : ℕ). i + 2) p

-- three of them from the start are the head
pub head_read : (a b c : Field) (s : List ℕ) → a ≡ field_at s 0 → b ≡ field_at s a.reached → c ≡ field_at s b.reached
    → record { algorithm = a.number; sequence = b.number; status = c.number; reached = c.reached } ≡ head_of s
head_read a b c s e f g =
    let i : a.reached ≡ 2 = field-reached a s 0 0 e refl in
    let j : b.reached ≡ 4 = field-reached b s a.reached 2 f i in
    rw (field-number a s 0 0 e refl, field-number b s a.reached 2 f i, field-number c s b.reached 4 g j, field-reached c s b.reached 4 g j)

module _ (g : ℕ) (s : List ℕ) (at m : ℕ) (p : at ≡ 8) (e : m ≡ commit_length g) where
  pub listed-short : length s < at + m → None ≡ read_listed g s
  unfolding read_listed
  listed-short h = rw (lt-ltb (length s) (8 + commit_length g) (omega arith))

  pub listed-long : at + m ≤ length s → 256 < length s - (at + m) → None ≡ read_listed g s
  unfolding read_listed
  listed-long h k = rw (le-ltb (length s) (8 + commit_length g) (omega arith), lt-ltb 256 (length s - (8 + commit_length g)) (omega arith))

  pub listed-read : at + m ≤ length s → length s - (at + m) ≤ 256 → Some (Commit g (length s - (at + m))) ≡ read_listed g s
  unfolding read_listed
  listed-read h k = rw (p, e, le-ltb (length s) (8 + commit_length g) (omega arith), le-ltb 256 (length s - (8 + commit_length g)) (omega arith))

module _ (gs s : List ℕ) where
  pub offer-short : length s < 8 → None ≡ read_offer gs s
  unfolding read_offer
  offer-short h = rw (lt-ltb (length s) 8 h)

  module _ (g : ℕ) (b : Bool) (h : 8 ≤ length s) (e : g ≡ group_of s) (p : b ≡ listed gs g) where
    pub offer-listed : (r : Option Body) → b ≡ true → r ≡ read_listed g s → r ≡ read_offer gs s
    unfolding read_offer
    offer-listed r q k = k ∙ rw (le-ltb (length s) 8 h, ← e, ← p, q)

    pub offer-other : b ≡ false → Some (Unsupported g) ≡ read_offer gs s
    unfolding read_offer
    offer-other q = rw (le-ltb (length s) 8 h, ← e, ← p, q)

module _ (s : List ℕ) where
  pub request-short : length s < 9 → None ≡ read_token_request s
  unfolding read_token_request
  request-short h = rw (lt-ltb (length s) 9 h)

  pub request-long : 9 ≤ length s → 264 < length s → None ≡ read_token_request s
  unfolding read_token_request
  request-long h k = rw (le-ltb (length s) 9 h, lt-ltb 264 (length s) k)

  pub request-read : (g at : ℕ) → 9 ≤ length s → length s ≤ 264 → g ≡ group_of s → at ≡ 8 → Some (TokenRequest g (length s - at)) ≡ read_token_request s
  unfolding read_token_request
  request-read g at h k e p = rw (le-ltb (length s) 9 h, le-ltb 264 (length s) k, e, p)

  pub refusal-other : (length s ≡ 8 → ⊥) → None ≡ read_group_refusal s
  unfolding read_group_refusal
  refusal-other h = rw (ne_eqb (length s) 8 h)

  pub refusal-read : (g : ℕ) → length s ≡ 8 → g ≡ group_of s → Some (GroupRefusal g) ≡ read_group_refusal s
  unfolding read_group_refusal
  refusal-read g h e = rw (eq-eqb (length s) 8 h, e)

module _ (gs s : List ℕ) (x : ℕ) (e : x ≡ status_of s) where
  pub commit-offer : (r : Option Body) → x ≡ 0 → r ≡ read_offer gs s → r ≡ read_commit gs s
  unfolding read_commit
  commit-offer r h k = k ∙ rw (eq-eqb (status_of s) 0 (omega arith))

  pub commit-request : (r : Option Body) → x ≡ 76 → r ≡ read_token_request s → r ≡ read_commit gs s
  unfolding read_commit
  commit-request r h k = k ∙ rw (ne_eqb (status_of s) 0 (omega arith), eq-eqb (status_of s) 76 (omega arith))

  pub commit-refusal : (r : Option Body) → x ≡ 77 → r ≡ read_group_refusal s → r ≡ read_commit gs s
  unfolding read_commit
  commit-refusal r h k = k ∙ rw (ne_eqb (status_of s) 0 (omega arith), ne_eqb (status_of s) 76 (omega arith), eq-eqb (status_of s) 77 (omega arith))

  pub commit-other : (x ≡ 0 → ⊥) → (x ≡ 76 → ⊥) → (x ≡ 77 → ⊥) → Some (OtherCommit x) ≡ read_commit gs s
  unfolding read_commit
  commit-other h k l = rw (← e, ne_eqb x 0 h, ne_eqb x 76 k, ne_eqb x 77 l)

module _ (s : List ℕ) (x : ℕ) (e : x ≡ status_of s) where
  pub confirm-other : (x ≡ 0 → ⊥) → Some (OtherConfirm x) ≡ read_confirm s
  unfolding read_confirm
  confirm-other h = rw (← e, ne_eqb x 0 h)

  pub confirm-short : x ≡ 0 → length s < 40 → None ≡ read_confirm s
  unfolding read_confirm
  confirm-short h k = rw (← e, eq-eqb x 0 h, lt-ltb (length s) 40 k)

  -- what follows the value, which stands at the offset reached behind the counter
  module _ (h : x ≡ 0) (k : 40 ≤ length s) (at : ℕ) (b : Bool) (p : at ≡ 8) (q : b ≡ whole_elements (drop (at + 32) s)) where
    whole : whole_elements (elements_of s) ≡ b
    unfolding elements_of
    whole = ap (λ (i : ℕ). whole_elements (drop (i + 32) s)) (sym p) ∙ sym q

    pub confirm-cut : b ≡ false → None ≡ read_confirm s
    unfolding read_confirm
    confirm-cut l = rw (← e, eq-eqb x 0 h, le-ltb (length s) 40 k, whole, l)

    pub confirm-read : (n : ℕ) → b ≡ true → n ≡ counter_of s → Some (Confirm n) ≡ read_confirm s
    unfolding read_confirm
    confirm-read n l m = rw (← e, eq-eqb x 0 h, le-ltb (length s) 40 k, whole, l, m)

module _ (gs s : List ℕ) where
  pub body-short : length s < 6 → None ≡ read_body gs s
  unfolding read_body
  body-short h = rw (lt-ltb (length s) 6 h)

  pub body-long : 6 ≤ length s → 2304 < length s → None ≡ read_body gs s
  unfolding read_body
  body-long h k = rw (le-ltb (length s) 6 h, lt-ltb 2304 (length s) k)

  module _ (a : ℕ) (h : 6 ≤ length s) (k : length s ≤ 2304) (e : a ≡ algorithm_of s) where
    pub body-unlike : (a ≡ 3 → ⊥) → None ≡ read_body gs s
    unfolding read_body
    body-unlike n = rw (le-ltb (length s) 6 h, le-ltb 2304 (length s) k, ← e, ne_eqb a 3 n)

    module _ (q : ℕ) (f : q ≡ sequence_of s) (n : a ≡ 3) where
      opened : read_body gs s ≡ (if eqb q 1 then read_commit gs s else if eqb q 2 then read_confirm s else None)
      unfolding read_body
      opened = rw (le-ltb (length s) 6 h, le-ltb 2304 (length s) k, eq-eqb (algorithm_of s) 3 (omega arith), ← f)

      pub body-commit : (r : Option Body) → q ≡ 1 → r ≡ read_commit gs s → r ≡ read_body gs s
      body-commit r i j = j ∙ sym (opened ∙ rw (eq-eqb q 1 i))

      pub body-confirm : (r : Option Body) → q ≡ 2 → r ≡ read_confirm s → r ≡ read_body gs s
      body-confirm r i j = j ∙ sym (opened ∙ rw (ne_eqb q 1 (omega arith), eq-eqb q 2 i))

      pub body-neither : (q ≡ 1 → ⊥) → (q ≡ 2 → ⊥) → None ≡ read_body gs s
      body-neither i j = sym (opened ∙ rw (ne_eqb q 1 i, ne_eqb q 2 j))
