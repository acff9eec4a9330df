-- What each branch of the writers leaves and answers, in the order of the tests.
use mathlib.Core.Path.{◌≡◌, ◌∙◌}
use mathlib.Core.Bool.{Bool, true, false}
use mathlib.Core.List.{List, []}
use Prim.Native.Nat.{ℕ, ◌≤◌, ◌<◌}
use native.Mathlib.Omega.{arith}
use lib.Dec.{eqb}
use lib.ListN.{length}
use borrow.Author.Tests.{lt-ltb, le-ltb, eq-eqb, ne_eqb}
use Rattle.std.specs.Prelude.{if◌then◌else◌, Result, Err}
use Rattle.groups.specs.Groups.{commit_length, listed}
use Rattle.frame.specs.Frame.{body, commit_body, token_request_body, group_refusal_body, confirm_body}
use Rattle.frame.specs.Writing.{Octets, Outside, Writes, draw_commit, draw_token_request, draw_group_refusal, draw_confirm, draw_commits, draw_confirms, parts_body}
use Rattle.frame.proofs.Laws.{outside, drawn}
use Rattle.causes.specs.declared.Refusal.TheVariants as why
use Rattle.causes.specs.declared.Refusal.{Refusal}

-- ---- a status 0 Commit

module _ (gs : List ℕ) (g : ℕ) (t c s : List ℕ) (b : Bool) (p : b ≡ listed gs g) where
  pub commit-unlisted : b ≡ false → Writes (draw_commit gs g t c) s s (Err why.Body)
  unfolding draw_commit
  commit-unlisted q = outside _ s (rw (← p, q))

  pub commit-token : b ≡ true → 256 < length t → Writes (draw_commit gs g t c) s s (Err why.Body)
  unfolding draw_commit
  commit-token q h = outside _ s (rw (← p, q, lt-ltb 256 (length t) h))

  module _ (n : ℕ) (q : b ≡ true) (h : length t ≤ 256) (e : n ≡ commit_length g) where
    pub commit-unfit : (length c ≡ n → ⊥) → Writes (draw_commit gs g t c) s s (Err why.Body)
    unfolding draw_commit
    commit-unfit k = outside _ s (rw (← p, q, le-ltb 256 (length t) h, ← e, ne_eqb (length c) n k))

    pub commit-drawn : (u : List ℕ) (r : Result ℕ Refusal) → length c ≡ n → Writes (Octets (body 1 0 g t c)) s u r → Writes (draw_commit gs g t c) s u r
    unfolding draw_commit commit_body
    commit-drawn u r k w = drawn _ _ s u r (rw (← p, q, le-ltb 256 (length t) h, ← e, eq-eqb (length c) n k)) w

-- ---- 76, 77 and Confirm

module _ (g : ℕ) (t s : List ℕ) where
  pub request-empty : length t ≡ 0 → Writes (draw_token_request g t) s s (Err why.Body)
  unfolding draw_token_request
  request-empty h = outside _ s (rw (eq-eqb (length t) 0 h))

  pub request-token : (length t ≡ 0 → ⊥) → 256 < length t → Writes (draw_token_request g t) s s (Err why.Body)
  unfolding draw_token_request
  request-token h k = outside _ s (rw (ne_eqb (length t) 0 h, lt-ltb 256 (length t) k))

  pub request-drawn : (u : List ℕ) (r : Result ℕ Refusal) → (length t ≡ 0 → ⊥) → length t ≤ 256 → Writes (Octets (body 1 76 g t [])) s u r → Writes (draw_token_request g t) s u r
  unfolding draw_token_request token_request_body
  request-drawn u r h k w = drawn _ _ s u r (rw (ne_eqb (length t) 0 h, le-ltb 256 (length t) k)) w

pub refusal-drawn : (g : ℕ) (s u : List ℕ) (r : Result ℕ Refusal) → Writes (Octets (body 1 77 g [] [])) s u r → Writes (draw_group_refusal g) s u r
unfolding draw_group_refusal group_refusal_body
refusal-drawn g s u r w = w

module _ (n : ℕ) (v s : List ℕ) where
  pub confirm-unfit : (length v ≡ 32 → ⊥) → Writes (draw_confirm n v) s s (Err why.Body)
  unfolding draw_confirm
  confirm-unfit h = outside _ s (rw (ne_eqb (length v) 32 h))

  pub confirm-drawn : (u : List ℕ) (r : Result ℕ Refusal) → length v ≡ 32 → Writes (Octets (body 2 0 n [] v)) s u r → Writes (draw_confirm n v) s u r
  unfolding draw_confirm confirm_body
  confirm-drawn u r h w = drawn _ _ s u r (rw (eq-eqb (length v) 32 h)) w

-- ---- by status, and by sequence

module _ (gs : List ℕ) (x g : ℕ) (t c s : List ℕ) where
  pub commits-zero : (u : List ℕ) (r : Result ℕ Refusal) → x ≡ 0 → Writes (draw_commit gs g t c) s u r → Writes (draw_commits gs x g t c) s u r
  unfolding draw_commits
  commits-zero u r h w = drawn _ _ s u r (rw (eq-eqb x 0 h)) w

  pub commits-rest : x ≡ 76 → (length c ≡ 0 → ⊥) → Writes (draw_commits gs x g t c) s s (Err why.Body)
  unfolding draw_commits
  commits-rest h k = outside _ s (rw (ne_eqb x 0 (omega arith), eq-eqb x 76 h, ne_eqb (length c) 0 k))

  pub commits-request : (u : List ℕ) (r : Result ℕ Refusal) → x ≡ 76 → length c ≡ 0 → Writes (draw_token_request g t) s u r → Writes (draw_commits gs x g t c) s u r
  unfolding draw_commits
  commits-request u r h k w = drawn _ _ s u r (rw (ne_eqb x 0 (omega arith), eq-eqb x 76 h, eq-eqb (length c) 0 k)) w

  pub commits-other : (x ≡ 0 → ⊥) → (x ≡ 76 → ⊥) → (x ≡ 77 → ⊥) → Writes (draw_commits gs x g t c) s s (Err why.Body)
  unfolding draw_commits
  commits-other h k l = outside _ s (rw (ne_eqb x 0 h, ne_eqb x 76 k, ne_eqb x 77 l))

  module _ (h : x ≡ 77) where
    refused : draw_commits gs x g t c ≡ (if eqb (length t) 0 then (if eqb (length c) 0 then draw_group_refusal g else Outside) else Outside)
    unfolding draw_commits
    refused = rw (ne_eqb x 0 (omega arith), ne_eqb x 76 (omega arith), eq-eqb x 77 h)

    pub commits-token : (length t ≡ 0 → ⊥) → Writes (draw_commits gs x g t c) s s (Err why.Body)
    commits-token k = outside _ s (refused ∙ rw (ne_eqb (length t) 0 k))

    pub commits-tail : length t ≡ 0 → (length c ≡ 0 → ⊥) → Writes (draw_commits gs x g t c) s s (Err why.Body)
    commits-tail k l = outside _ s (refused ∙ rw (eq-eqb (length t) 0 k, ne_eqb (length c) 0 l))

    pub commits-refusal : (u : List ℕ) (r : Result ℕ Refusal) → length t ≡ 0 → length c ≡ 0 → Writes (draw_group_refusal g) s u r → Writes (draw_commits gs x g t c) s u r
    commits-refusal u r k l w = drawn _ _ s u r (refused ∙ rw (eq-eqb (length t) 0 k, eq-eqb (length c) 0 l)) w

module _ (x g n : ℕ) (t v s : List ℕ) where
  pub confirms-status : (x ≡ 0 → ⊥) → Writes (draw_confirms x g n t v) s s (Err why.Body)
  unfolding draw_confirms
  confirms-status h = outside _ s (rw (ne_eqb x 0 h))

  pub confirms-group : x ≡ 0 → (g ≡ 0 → ⊥) → Writes (draw_confirms x g n t v) s s (Err why.Body)
  unfolding draw_confirms
  confirms-group h k = outside _ s (rw (eq-eqb x 0 h, ne_eqb g 0 k))

  pub confirms-token : x ≡ 0 → g ≡ 0 → (length t ≡ 0 → ⊥) → Writes (draw_confirms x g n t v) s s (Err why.Body)
  unfolding draw_confirms
  confirms-token h k l = outside _ s (rw (eq-eqb x 0 h, eq-eqb g 0 k, ne_eqb (length t) 0 l))

  pub confirms-drawn : (u : List ℕ) (r : Result ℕ Refusal) → x ≡ 0 → g ≡ 0 → length t ≡ 0 → Writes (draw_confirm n v) s u r → Writes (draw_confirms x g n t v) s u r
  unfolding draw_confirms
  confirms-drawn u r h k l w = drawn _ _ s u r (rw (eq-eqb x 0 h, eq-eqb g 0 k, eq-eqb (length t) 0 l)) w

module _ (gs : List ℕ) (q x g n : ℕ) (t c s : List ℕ) where
  pub parts-counter : q ≡ 1 → (n ≡ 0 → ⊥) → Writes (parts_body gs q x g n t c) s s (Err why.Body)
  unfolding parts_body
  parts-counter h k = outside _ s (rw (eq-eqb q 1 h, ne_eqb n 0 k))

  pub parts-commit : (u : List ℕ) (r : Result ℕ Refusal) → q ≡ 1 → n ≡ 0 → Writes (draw_commits gs x g t c) s u r → Writes (parts_body gs q x g n t c) s u r
  unfolding parts_body
  parts-commit u r h k w = drawn _ _ s u r (rw (eq-eqb q 1 h, eq-eqb n 0 k)) w

  pub parts-confirm : (u : List ℕ) (r : Result ℕ Refusal) → q ≡ 2 → Writes (draw_confirms x g n t c) s u r → Writes (parts_body gs q x g n t c) s u r
  unfolding parts_body
  parts-confirm u r h w = drawn _ _ s u r (rw (ne_eqb q 1 (omega arith), eq-eqb q 2 h)) w

  pub parts-neither : (q ≡ 1 → ⊥) → (q ≡ 2 → ⊥) → Writes (parts_body gs q x g n t c) s s (Err why.Body)
  unfolding parts_body
  parts-neither h k = outside _ s (rw (ne_eqb q 1 h, ne_eqb q 2 k))
