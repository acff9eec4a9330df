-- What is known of a body that was read as one of the shapes: its fields, its length, its token's length.
use mathlib.Core.Path.{◌≡◌, refl, ap, ◌∙◌}
use mathlib.Core.Bool.{Bool, true, false}
use mathlib.Core.Logic.{◌⊎◌, inl, inr, ⊎_elim}
use mathlib.Core.List.{List, [], ◌∷◌}
use Prim.Native.Nat.{ℕ, ◌+◌, ◌-◌, ◌≤◌, ◌<◌}
use native.Mathlib.Omega.{arith}
use lib.Dec.{eqb, ltb}
use lib.ListN.{length, take, drop}
use borrow.Author.Tests.{ltb-false, eqb-true, eqb-false}
use Rattle.octets.specs.Octets.{part, num, Bytes}
use Rattle.octets.proofs.Laws.{bytes_drop}
use Rattle.std.specs.Prelude.{if◌then◌else◌, Option, Some, None}
use Rattle.groups.specs.Groups.{commit_length, listed}
use Rattle.frame.specs.declared.Body.{Body}
use Rattle.frame.specs.declared.Body.TheVariants.{Commit, Unsupported, TokenRequest, GroupRefusal, OtherCommit, Confirm, OtherConfirm}
use Rattle.frame.specs.Frame.{field, algorithm_of, sequence_of, status_of, group_of, counter_of, read_listed, read_offer, read_token_request, read_group_refusal, read_commit, whole_elements, elements_of, read_confirm, read_body}

-- ---- which branch an answer came from

pub if-then : {A : Type 0} (b : Bool) (x y z : A) → (if b then x else y) ≡ z → (y ≡ z → ⊥) → (b ≡ true) × (x ≡ z)
if-then true x y z e n = (refl, e)
if-then false x y z e n = absurd (n e)

pub if-else : {A : Type 0} (b : Bool) (x y z : A) → (if b then x else y) ≡ z → (x ≡ z → ⊥) → (b ≡ false) × (y ≡ z)
if-else true x y z e n = absurd (n e)
if-else false x y z e n = (refl, e)

-- the shapes told apart by a number
abbrev code : Option Body → ℕ
code (Some (Commit g t)) = 0
code (Some (Unsupported g)) = 1
code (Some (TokenRequest g t)) = 2
code (Some (GroupRefusal g)) = 3
code (Some (OtherCommit s)) = 4
code (Some (Confirm n)) = 5
code (Some (OtherConfirm s)) = 6
code None = 7

-- what each part of the reader can answer
listed-code : (g : ℕ) (s : List ℕ) → (code (read_listed g s) ≡ 0) ⊎ (code (read_listed g s) ≡ 7)
unfolding read_listed
listed-code g s = go (ltb (length s) (8 + commit_length g)) (ltb 256 (length s - (8 + commit_length g))) (length s - (8 + commit_length g))
  where
    go : (a b : Bool) (n : ℕ) → (code (if a then None else if b then None else Some (Commit g n)) ≡ 0) ⊎ (code (if a then None else if b then None else Some (Commit g n)) ≡ 7)
    go true b n = inr refl
    go false true n = inr refl
    go false false n = inl refl

request-code : (s : List ℕ) → (code (read_token_request s) ≡ 2) ⊎ (code (read_token_request s) ≡ 7)
unfolding read_token_request
request-code s = go (ltb (length s) 9) (ltb 264 (length s)) (group_of s) (length s - 8)
  where
    go : (a b : Bool) (g n : ℕ) → (code (if a then None else if b then None else Some (TokenRequest g n)) ≡ 2) ⊎ (code (if a then None else if b then None else Some (TokenRequest g n)) ≡ 7)
    go true b g n = inr refl
    go false true g n = inr refl
    go false false g n = inl refl

refusal-code : (s : List ℕ) → (code (read_group_refusal s) ≡ 3) ⊎ (code (read_group_refusal s) ≡ 7)
unfolding read_group_refusal
refusal-code s = go (eqb (length s) 8) (group_of s)
  where
    go : (a : Bool) (g : ℕ) → (code (if a then Some (GroupRefusal g) else None) ≡ 3) ⊎ (code (if a then Some (GroupRefusal g) else None) ≡ 7)
    go true g = inl refl
    go false g = inr refl

offer-code : (gs s : List ℕ) → (code (read_offer gs s) ≤ 1) ⊎ (code (read_offer gs s) ≡ 7)
unfolding read_offer
offer-code gs s = go (ltb (length s) 8) (listed gs (group_of s)) (group_of s) (read_listed (group_of s) s) (listed-code (group_of s) s)
  where
    go : (a b : Bool) (g : ℕ) (z : Option Body) → (code z ≡ 0) ⊎ (code z ≡ 7) → (code (if a then None else if b then z else Some (Unsupported g)) ≤ 1) ⊎ (code (if a then None else if b then z else Some (Unsupported g)) ≡ 7)
    go true b g z h = inr refl
    go false true g z (inl e) = inl (omega arith)
    go false true g z (inr e) = inr e
    go false false g z h = inl (omega arith)

-- the answers to a Commit of nonzero status
rest-code : (s : List ℕ) → 2 ≤ code (if eqb (status_of s) 76 then read_token_request s else if eqb (status_of s) 77 then read_group_refusal s else Some (OtherCommit (status_of s)))
rest-code s = go (eqb (status_of s) 76) (eqb (status_of s) 77) (status_of s) (read_token_request s) (read_group_refusal s) (request-code s) (refusal-code s)
  where
    go : (a b : Bool) (x : ℕ) (y z : Option Body) → (code y ≡ 2) ⊎ (code y ≡ 7) → (code z ≡ 3) ⊎ (code z ≡ 7) → 2 ≤ code (if a then y else if b then z else Some (OtherCommit x))
    go true b x y z (inl e) k = omega arith
    go true b x y z (inr e) k = omega arith
    go false true x y z h (inl e) = omega arith
    go false true x y z h (inr e) = omega arith
    go false false x y z h k = omega arith

tail-code : (s : List ℕ) → 3 ≤ code (if eqb (status_of s) 77 then read_group_refusal s else Some (OtherCommit (status_of s)))
tail-code s = go (eqb (status_of s) 77) (status_of s) (read_group_refusal s) (refusal-code s)
  where
    go : (b : Bool) (x : ℕ) (z : Option Body) → (code z ≡ 3) ⊎ (code z ≡ 7) → 3 ≤ code (if b then z else Some (OtherCommit x))
    go true x z (inl e) = omega arith
    go true x z (inr e) = omega arith
    go false x z k = omega arith

commit-code : (gs s : List ℕ) → (code (read_commit gs s) ≤ 4) ⊎ (code (read_commit gs s) ≡ 7)
unfolding read_commit
commit-code gs s = go (eqb (status_of s) 0) (eqb (status_of s) 76) (eqb (status_of s) 77) (status_of s) (read_offer gs s) (read_token_request s) (read_group_refusal s) (offer-code gs s) (request-code s) (refusal-code s)
  where
    go : (a b c : Bool) (n : ℕ) (x y z : Option Body) → (code x ≤ 1) ⊎ (code x ≡ 7) → (code y ≡ 2) ⊎ (code y ≡ 7) → (code z ≡ 3) ⊎ (code z ≡ 7)
        → (code (if a then x else if b then y else if c then z else Some (OtherCommit n)) ≤ 4) ⊎ (code (if a then x else if b then y else if c then z else Some (OtherCommit n)) ≡ 7)
    go true b c n x y z (inl e) k l = inl (omega arith)
    go true b c n x y z (inr e) k l = inr e
    go false true c n x y z h (inl e) l = inl (omega arith)
    go false true c n x y z h (inr e) l = inr e
    go false false true n x y z h k (inl e) = inl (omega arith)
    go false false true n x y z h k (inr e) = inr e
    go false false false n x y z h k l = inl (omega arith)

value-code : (s : List ℕ) (n : ℕ) → (code (if ltb (length s) 40 then None else if whole_elements (elements_of s) then Some (Confirm n) else None) ≡ 5) ⊎ (code (if ltb (length s) 40 then None else if whole_elements (elements_of s) then Some (Confirm n) else None) ≡ 7)
value-code s n = go (ltb (length s) 40) (whole_elements (elements_of s))
  where
    go : (a b : Bool) → (code (if a then None else if b then Some (Confirm n) else None) ≡ 5) ⊎ (code (if a then None else if b then Some (Confirm n) else None) ≡ 7)
    go true b = inr refl
    go false true = inl refl
    go false false = inr refl

confirm-code : (s : List ℕ) → 5 ≤ code (read_confirm s)
unfolding read_confirm
confirm-code s = go (eqb (status_of s) 0) (status_of s) _ (value-code s (counter_of s))
  where
    go : (a : Bool) (x : ℕ) (z : Option Body) → (code z ≡ 5) ⊎ (code z ≡ 7) → 5 ≤ code (if a then z else Some (OtherConfirm x))
    go true x z (inl e) = omega arith
    go true x z (inr e) = omega arith
    go false x z k = omega arith

-- ---- fields

two-fit : (l : List ℕ) → Bytes l → num (take 2 l) < 65536
unfolding num
two-fit [] b = omega arith
two-fit (x ∷ []) b = let h : x < 256 = b 0 in omega arith
two-fit (x ∷ y ∷ l) b = let h : x < 256 = b 0 in let k : y < 256 = b 1 in omega arith

-- a field of two octets is below 65,536
pub field_fits : (s : List ℕ) (at : ℕ) → Bytes s → field s at < 65536
unfolding part
field_fits s at b = two-fit (drop at s) (bytes_drop at s b)

-- ---- a body by its head

-- what holds of any body that is not malformed
pub record Headed (s : List ℕ) : Type 0 where
  pub shortest : 6 ≤ length s
  pub longest : length s ≤ 2304
  pub algorithm : algorithm_of s ≡ 3

pub headed : (gs s : List ℕ) (z : Option Body) → read_body gs s ≡ z → (None ≡ z → ⊥) → Headed s × (((sequence_of s ≡ 1) × (read_commit gs s ≡ z)) ⊎ ((sequence_of s ≡ 2) × (read_confirm s ≡ z)))
unfolding read_body
headed gs s z e n =
    let a = if-else (ltb (length s) 6) None _ z e n in
    let b = if-else (ltb 2304 (length s)) None _ z a.1 n in
    let c = if-then (eqb (algorithm_of s) 3) _ None z b.1 n in
    (record { shortest = ltb-false _ _ a.0; longest = ltb-false _ _ b.0; algorithm = eqb-true _ _ c.0 }, go (eqb (sequence_of s) 1) refl c.1)
  where
    go : (b : Bool) → eqb (sequence_of s) 1 ≡ b → (if b then read_commit gs s else if eqb (sequence_of s) 2 then read_confirm s else None) ≡ z
        → ((sequence_of s ≡ 1) × (read_commit gs s ≡ z)) ⊎ ((sequence_of s ≡ 2) × (read_confirm s ≡ z))
    go true p k = inl (eqb-true _ _ p, k)
    go false p k = let d = if-then (eqb (sequence_of s) 2) (read_confirm s) None z k n in inr (eqb-true _ _ d.0, d.1)

-- a Commit of any status, and a Confirm of any status
as_commit : (gs s : List ℕ) (z : Option Body) → read_body gs s ≡ z → code z ≤ 4 → Headed s × (sequence_of s ≡ 1) × (read_commit gs s ≡ z)
as_commit gs s z e h =
    let w = headed gs s z e (λ q. omega (arith, ap code q)) in
    ⊎_elim (λ k. (w.0, k.0, k.1)) (λ k. absurd (omega (arith, ap code k.1, confirm-code s))) w.1

as_confirm : (gs s : List ℕ) (z : Option Body) → read_body gs s ≡ z → 5 ≤ code z → code z < 7 → Headed s × (sequence_of s ≡ 2) × (read_confirm s ≡ z)
as_confirm gs s z e h l =
    let w = headed gs s z e (λ q. omega (arith, ap code q)) in
    ⊎_elim
    (λ k. absurd (⊎_elim (λ c. omega (arith, ap code k.1)) (λ c. omega (arith, ap code k.1)) (commit-code gs s)))
    (λ k. (w.0, k.0, k.1)) w.1

-- a status 0 Commit, in a listed group or in any other
as-offer : (gs s : List ℕ) (z : Option Body) → read_body gs s ≡ z → code z ≤ 1 → Headed s × (sequence_of s ≡ 1) × (status_of s ≡ 0) × (read_offer gs s ≡ z)
unfolding read_commit
as-offer gs s z e h =
    let w = as_commit gs s z e (omega arith) in
    let k = if-then (eqb (status_of s) 0) (read_offer gs s) _ z w.2 (λ q. no q) in
    (w.0, w.1, eqb-true _ _ k.0, k.1)
  where
    no : (if eqb (status_of s) 76 then read_token_request s else if eqb (status_of s) 77 then read_group_refusal s else Some (OtherCommit (status_of s))) ≡ z → ⊥
    no q = omega (arith, rest-code s, ap code q)

-- ---- the shapes

-- a status 0 Commit in a listed group
pub record CommitShape (gs s : List ℕ) (g n : ℕ) : Type 0 where
  pub head : Headed s
  pub sequence : sequence_of s ≡ 1
  pub status : status_of s ≡ 0
  pub group : group_of s ≡ g
  pub supported : listed gs g ≡ true
  pub total : length s ≡ 8 + n + commit_length g
  pub token : n ≤ 256

pub commit-shape : (gs s : List ℕ) (g n : ℕ) → read_body gs s ≡ Some (Commit g n) → CommitShape gs s g n
unfolding read_offer read_listed
commit-shape gs s g n e =
    let w = as-offer gs s (Some (Commit g n)) e (omega arith) in
    let a = if-else (ltb (length s) 8) None _ (Some (Commit g n)) w.3 (λ q. omega (arith, ap code q)) in
    let b = if-then (listed gs (group_of s)) _ (Some (Unsupported (group_of s))) (Some (Commit g n)) a.1 (λ q. omega (arith, ap code q)) in
    let c = if-else (ltb (length s) (8 + commit_length (group_of s))) None _ (Some (Commit g n)) b.1 (λ q. omega (arith, ap code q)) in
    let d = if-else (ltb 256 (length s - (8 + commit_length (group_of s)))) None _ (Some (Commit g n)) c.1 (λ q. omega (arith, ap code q)) in
    fill w.0 w.1 w.2 b.0 (ltb-false _ _ c.0) (ltb-false _ _ d.0) d.1
  where
    fill : Headed s → sequence_of s ≡ 1 → status_of s ≡ 0 → listed gs (group_of s) ≡ true → 8 + commit_length (group_of s) ≤ length s
        → length s - (8 + commit_length (group_of s)) ≤ 256 → Some (Commit (group_of s) (length s - (8 + commit_length (group_of s)))) ≡ Some (Commit g n) → CommitShape gs s g n
    fill h q x l a b k =
        let i : group_of s ≡ g = cc in
        let j : length s - (8 + commit_length (group_of s)) ≡ n = cc in
        record { head = h; sequence = q; status = x; group = i; supported = rw i at l; total = (rw i at (tell a j)); token = omega arith }
      where
        tell : 8 + commit_length (group_of s) ≤ length s → length s - (8 + commit_length (group_of s)) ≡ n → length s ≡ 8 + n + commit_length (group_of s)
        tell a j = omega arith

-- a status 0 Commit in any other group
pub record OtherGroupShape (gs s : List ℕ) (g : ℕ) : Type 0 where
  pub head : Headed s
  pub sequence : sequence_of s ≡ 1
  pub status : status_of s ≡ 0
  pub group : group_of s ≡ g
  pub unsupported : listed gs g ≡ false
  pub total : 8 ≤ length s

pub other-group-shape : (gs s : List ℕ) (g : ℕ) → read_body gs s ≡ Some (Unsupported g) → OtherGroupShape gs s g
unfolding read_offer
other-group-shape gs s g e =
    let w = as-offer gs s (Some (Unsupported g)) e (omega arith) in
    let a = if-else (ltb (length s) 8) None _ (Some (Unsupported g)) w.3 (λ q. omega (arith, ap code q)) in
    let b = if-else (listed gs (group_of s)) (read_listed (group_of s) s) (Some (Unsupported (group_of s))) (Some (Unsupported g)) a.1 (λ q. ⊎_elim (λ k. omega (arith, ap code q)) (λ k. omega (arith, ap code q)) (listed-code (group_of s) s)) in
    let i : group_of s ≡ g = same b.1 in
    record { head = w.0; sequence = w.1; status = w.2; group = i; unsupported = rw i at b.0; total = ltb-false _ _ a.0 }
  where
    same : Some (Unsupported (group_of s)) ≡ Some (Unsupported g) → group_of s ≡ g
    same q = cc

-- a 76
pub record TokenRequestShape (s : List ℕ) (g n : ℕ) : Type 0 where
  pub head : Headed s
  pub sequence : sequence_of s ≡ 1
  pub status : status_of s ≡ 76
  pub group : group_of s ≡ g
  pub total : length s ≡ 8 + n
  pub some : 1 ≤ n
  pub token : n ≤ 256

pub token-request-shape : (gs s : List ℕ) (g n : ℕ) → read_body gs s ≡ Some (TokenRequest g n) → TokenRequestShape s g n
unfolding read_commit read_token_request
token-request-shape gs s g n e =
    let w = as_commit gs s (Some (TokenRequest g n)) e (omega arith) in
    let a = if-else (eqb (status_of s) 0) (read_offer gs s) _ (Some (TokenRequest g n)) w.2 (λ q. ⊎_elim (λ k. omega (arith, ap code q)) (λ k. omega (arith, ap code q)) (offer-code gs s)) in
    let b = if-then (eqb (status_of s) 76) (read_token_request s) _ (Some (TokenRequest g n)) a.1 (λ q. no q) in
    let c = if-else (ltb (length s) 9) None _ (Some (TokenRequest g n)) b.1 (λ q. omega (arith, ap code q)) in
    let d = if-else (ltb 264 (length s)) None _ (Some (TokenRequest g n)) c.1 (λ q. omega (arith, ap code q)) in
    fill w.0 w.1 (eqb-true _ _ b.0) (ltb-false _ _ c.0) (ltb-false _ _ d.0) d.1
  where
    no : (if eqb (status_of s) 77 then read_group_refusal s else Some (OtherCommit (status_of s))) ≡ Some (TokenRequest g n) → ⊥
    no q = omega (arith, tail-code s, ap code q)

    fill : Headed s → sequence_of s ≡ 1 → status_of s ≡ 76 → 9 ≤ length s → length s ≤ 264 → Some (TokenRequest (group_of s) (length s - 8)) ≡ Some (TokenRequest g n) → TokenRequestShape s g n
    fill h q x a b k =
        let i : group_of s ≡ g = cc in
        let j : length s - 8 ≡ n = cc in
        record { head = h; sequence = q; status = x; group = i; total = omega arith; some = omega arith; token = omega arith }

-- a 77
pub record GroupRefusalShape (s : List ℕ) (g : ℕ) : Type 0 where
  pub head : Headed s
  pub sequence : sequence_of s ≡ 1
  pub status : status_of s ≡ 77
  pub group : group_of s ≡ g
  pub total : length s ≡ 8

pub group-refusal-shape : (gs s : List ℕ) (g : ℕ) → read_body gs s ≡ Some (GroupRefusal g) → GroupRefusalShape s g
unfolding read_commit read_group_refusal
group-refusal-shape gs s g e =
    let w = as_commit gs s (Some (GroupRefusal g)) e (omega arith) in
    let a = if-else (eqb (status_of s) 0) (read_offer gs s) _ (Some (GroupRefusal g)) w.2 (λ q. ⊎_elim (λ k. omega (arith, ap code q)) (λ k. omega (arith, ap code q)) (offer-code gs s)) in
    let b = if-else (eqb (status_of s) 76) (read_token_request s) _ (Some (GroupRefusal g)) a.1 (λ q. ⊎_elim (λ k. omega (arith, ap code q)) (λ k. omega (arith, ap code q)) (request-code s)) in
    let c = if-then (eqb (status_of s) 77) (read_group_refusal s) (Some (OtherCommit (status_of s))) (Some (GroupRefusal g)) b.1 (λ q. omega (arith, ap code q)) in
    let d = if-then (eqb (length s) 8) (Some (GroupRefusal (group_of s))) None (Some (GroupRefusal g)) c.1 (λ q. omega (arith, ap code q)) in
    record { head = w.0; sequence = w.1; status = eqb-true _ _ c.0; group = same d.1; total = eqb-true _ _ d.0 }
  where
    same : Some (GroupRefusal (group_of s)) ≡ Some (GroupRefusal g) → group_of s ≡ g
    same q = cc

-- a Commit of any other status
pub record OtherCommitShape (s : List ℕ) (x : ℕ) : Type 0 where
  pub head : Headed s
  pub sequence : sequence_of s ≡ 1
  pub status : status_of s ≡ x
  pub not_zero : x ≡ 0 → ⊥
  pub no_request : x ≡ 76 → ⊥
  pub no_refusal : x ≡ 77 → ⊥

pub other-commit-shape : (gs s : List ℕ) (x : ℕ) → read_body gs s ≡ Some (OtherCommit x) → OtherCommitShape s x
unfolding read_commit
other-commit-shape gs s x e =
    let w = as_commit gs s (Some (OtherCommit x)) e (omega arith) in
    let a = if-else (eqb (status_of s) 0) (read_offer gs s) _ (Some (OtherCommit x)) w.2 (λ q. ⊎_elim (λ k. omega (arith, ap code q)) (λ k. omega (arith, ap code q)) (offer-code gs s)) in
    let b = if-else (eqb (status_of s) 76) (read_token_request s) _ (Some (OtherCommit x)) a.1 (λ q. ⊎_elim (λ k. omega (arith, ap code q)) (λ k. omega (arith, ap code q)) (request-code s)) in
    let c = if-else (eqb (status_of s) 77) (read_group_refusal s) (Some (OtherCommit (status_of s))) (Some (OtherCommit x)) b.1 (λ q. ⊎_elim (λ k. omega (arith, ap code q)) (λ k. omega (arith, ap code q)) (refusal-code s)) in
    let i : status_of s ≡ x = same c.1 in
    record { head = w.0; sequence = w.1; status = i; not_zero = λ z. eqb-false _ _ a.0 (i ∙ z); no_request = λ z. eqb-false _ _ b.0 (i ∙ z); no_refusal = λ z. eqb-false _ _ c.0 (i ∙ z) }
  where
    same : Some (OtherCommit (status_of s)) ≡ Some (OtherCommit x) → status_of s ≡ x
    same q = cc

-- a status 0 Confirm
pub record ConfirmShape (s : List ℕ) (n : ℕ) : Type 0 where
  pub head : Headed s
  pub sequence : sequence_of s ≡ 2
  pub status : status_of s ≡ 0
  pub counter : counter_of s ≡ n
  pub total : 40 ≤ length s
  pub elements : whole_elements (elements_of s) ≡ true

pub confirm-shape : (gs s : List ℕ) (n : ℕ) → read_body gs s ≡ Some (Confirm n) → ConfirmShape s n
unfolding read_confirm
confirm-shape gs s n e =
    let w = as_confirm gs s (Some (Confirm n)) e (omega arith) (omega arith) in
    let a = if-then (eqb (status_of s) 0) _ (Some (OtherConfirm (status_of s))) (Some (Confirm n)) w.2 (λ q. omega (arith, ap code q)) in
    let b = if-else (ltb (length s) 40) None _ (Some (Confirm n)) a.1 (λ q. omega (arith, ap code q)) in
    let c = if-then (whole_elements (elements_of s)) (Some (Confirm (counter_of s))) None (Some (Confirm n)) b.1 (λ q. omega (arith, ap code q)) in
    record { head = w.0; sequence = w.1; status = eqb-true _ _ a.0; counter = same c.1; total = ltb-false _ _ b.0; elements = c.0 }
  where
    same : Some (Confirm (counter_of s)) ≡ Some (Confirm n) → counter_of s ≡ n
    same q = cc

-- a Confirm of nonzero status
pub record OtherConfirmShape (s : List ℕ) (x : ℕ) : Type 0 where
  pub head : Headed s
  pub sequence : sequence_of s ≡ 2
  pub status : status_of s ≡ x
  pub not_zero : x ≡ 0 → ⊥

pub other-confirm-shape : (gs s : List ℕ) (x : ℕ) → read_body gs s ≡ Some (OtherConfirm x) → OtherConfirmShape s x
unfolding read_confirm
other-confirm-shape gs s x e =
    let w = as_confirm gs s (Some (OtherConfirm x)) e (omega arith) (omega arith) in
    let a = if-else (eqb (status_of s) 0) _ (Some (OtherConfirm (status_of s))) (Some (OtherConfirm x)) w.2 (λ q. no q) in
    let i : status_of s ≡ x = same a.1 in
    record { head = w.0; sequence = w.1; status = i; not_zero = λ z. eqb-false _ _ a.0 (i ∙ z) }
  where
    same : Some (OtherConfirm (status_of s)) ≡ Some (OtherConfirm x) → status_of s ≡ x
    same q = cc

    no : (if ltb (length s) 40 then None else if whole_elements (elements_of s) then Some (Confirm (counter_of s)) else None) ≡ Some (OtherConfirm x) → ⊥
    no q = ⊎_elim (λ k. omega (arith, ap code q)) (λ k. omega (arith, ap code q)) (value-code s (counter_of s))
