-- What follows from a writer's outcome: which parts it took, what stands in the buffer, and how a reader takes it.
use mathlib.Core.Path.{◌≡◌, refl, sym, ap, ◌∙◌}
use mathlib.Core.Bool.{Bool, true, false}
use mathlib.Core.List.{List, [], ◌∷◌, ◌++◌}
use Prim.Native.Nat.{ℕ, ◌+◌, ◌≤◌, ◌<◌}
use native.Mathlib.Omega.{arith}
use native.Mathlib.Nat.{zero-add}
use lib.Dec.{eqb, ltb}
use lib.ListN.{length, take, drop}
use lib.Seq.{take_at, drop_at}
use borrow.Author.Tests.{ltb-true, ltb-false, eqb-true, eqb-false, le-ltb}
use Rattle.octets.specs.Octets.{part, put, oct, Bytes}
use Rattle.std.specs.Prelude.{if◌then◌else◌, Result, Ok, Err}
use Rattle.octets.proofs.Laws.{length-put, bytes-append, bytes-oct}
use Rattle.groups.specs.Groups.{commit_length, listed}
use Rattle.frame.specs.Frame.{read_body, head, body, commit_body, token_request_body, group_refusal_body, confirm_body}
use Rattle.frame.specs.Writing.{Drawn, Octets, Outside, draw_commit, draw_token_request, draw_group_refusal, draw_confirm, draw_commits, draw_confirms, parts_body, parts_read, written, leaves, refusal, Writes}
use Rattle.frame.proofs.Shapes.{if-then, if-else}
use Rattle.frame.proofs.RoundTrip.{body-token, body-rest, commit-reads, token-request-reads, group-refusal-reads, confirm-reads}
use Rattle.causes.specs.declared.Refusal.TheVariants as why
use Rattle.causes.specs.declared.Refusal.{Refusal}

-- ---- the buffer

-- "answers the length written and leaves octets past the frame untouched"
pub record Wrote (d : Drawn) (given left : List ℕ) (n : ℕ) : Type 0 where
  pub frame : d ≡ Octets (take n left)
  pub past : drop n left ≡ drop n given
  pub fits : n ≤ length given
  pub long : length left ≡ length given

first : (s given : List ℕ) → take (length s) (put given 0 s) ≡ s
unfolding put
first s given = take_at s (drop (0 + length s) given) (length s) refl

second : (s given : List ℕ) → drop (length s) (put given 0 s) ≡ drop (length s) given
unfolding put
second s given = drop_at s (drop (0 + length s) given) (length s) refl ∙ rw zero-add refl

pub wrote : (d : Drawn) (given left : List ℕ) (n : ℕ) → Writes d given left (Ok n) → Wrote d given left n
unfolding written leaves
wrote Outside given left n w = let z : ◌≡◌ {A = ℕ} 0 1 = clash w.answers in absurd (omega arith)
  where
    clash : Ok n ≡ (Err why.Body) → ◌≡◌ {A = ℕ} 0 1
    clash e = cc
wrote (Octets s) given left n w = go (ltb (length given) (length s)) refl w.answers w.left_as
  where
    go : (b : Bool) → ltb (length given) (length s) ≡ b → Ok n ≡ (if b then (Err why.Short) else Ok (length s)) → left ≡ (if b then given else put given 0 s) → Wrote (Octets s) given left n
    go true p e l = let z : ◌≡◌ {A = ℕ} 0 1 = cc in absurd (omega arith)
    go false p e l =
        let k : n ≡ length s = cc in
        let h : length s ≤ length given = ltb-false _ _ p in
        record {
          frame = ap Octets (sym (rw (k, l) (first s given)));
          past = rw (k, l) (second s given);
          fits = omega arith;
          long = ap length l ∙ length-put given 0 s (omega arith);
        }

-- a refusal leaves every octet
pub refused-leaves : (d : Drawn) (given left : List ℕ) (r : Result ℕ Refusal) → Writes d given left r → (refusal r ≡ 0 → ⊥) → left ≡ given
unfolding written leaves
refused-leaves Outside given left r w h = w.left_as
refused-leaves (Octets s) given left r w h = go (ltb (length given) (length s)) w.answers w.left_as
  where
    go : (b : Bool) → r ≡ (if b then (Err why.Short) else Ok (length s)) → left ≡ (if b then given else put given 0 s) → left ≡ given
    go true e l = l
    go false e l = absurd (h (ap refusal e))

-- 7 just where the parts are outside the shapes, 11 just where the frame is longer than the buffer
pub refused-shape : (d : Drawn) (given : List ℕ) → refusal (written d given) ≡ 7 → d ≡ Outside
unfolding written
refused-shape Outside given e = refl
refused-shape (Octets s) given e = absurd (go (ltb (length given) (length s)) e)
  where
    go : (b : Bool) → refusal (if b then (Err why.Short) else Ok (length s)) ≡ 7 → ⊥
    go true e = omega arith
    go false e = omega arith

pub refused-short : (s given : List ℕ) → refusal (written (Octets s) given) ≡ 11 → length given < length s
unfolding written
refused-short s given e = go (ltb (length given) (length s)) refl e
  where
    go : (b : Bool) → ltb (length given) (length s) ≡ b → refusal (if b then (Err why.Short) else Ok (length s)) ≡ 11 → length given < length s
    go true p e = ltb-true _ _ p
    go false p e = absurd (omega arith)

-- a buffer that is long enough takes the frame
pub room-enough : (s given : List ℕ) → length s ≤ length given → written (Octets s) given ≡ Ok (length s)
unfolding written
room-enough s given h = rw (le-ltb (length given) (length s) h)

-- a body's octets are octets
pub bytes-body : (q x f : ℕ) (t r : List ℕ) → Bytes t → Bytes r → Bytes (body q x f t r)
unfolding body head
bytes-body q x f t r b c =
    bytes-append (oct 2 3 ++ (oct 2 q ++ (oct 2 x ++ oct 2 f))) (t ++ r)
    (bytes-append (oct 2 3) (oct 2 q ++ (oct 2 x ++ oct 2 f)) (bytes-oct 2 3)
    (bytes-append (oct 2 q) (oct 2 x ++ oct 2 f) (bytes-oct 2 q) (bytes-append (oct 2 x) (oct 2 f) (bytes-oct 2 x) (bytes-oct 2 f))))
    (bytes-append t r b c)

-- ---- which parts were taken

outside-not : (s : List ℕ) → Outside ≡ Octets s → ⊥
outside-not s e = let z : ◌≡◌ {A = ℕ} 0 1 = cc in omega arith

octets-same : (s t : List ℕ) → Octets s ≡ Octets t → s ≡ t
octets-same s t e = cc

empty : (t : List ℕ) → length t ≡ 0 → t ≡ []
empty [] e = refl
empty (x ∷ t) e = absurd (omega arith)

-- a status 0 Commit
pub record CommitParts (gs : List ℕ) (g : ℕ) (t c s : List ℕ) : Type 0 where
  pub supported : listed gs g ≡ true
  pub token : length t ≤ 256
  pub commit : length c ≡ commit_length g
  pub octets : s ≡ commit_body g t c

pub commit-parts : (gs : List ℕ) (g : ℕ) (t c s : List ℕ) → draw_commit gs g t c ≡ Octets s → CommitParts gs g t c s
unfolding draw_commit
commit-parts gs g t c s e =
    let a = if-then (listed gs g) _ Outside (Octets s) e (outside-not s) in
    let b = if-else (ltb 256 (length t)) Outside _ (Octets s) a.1 (outside-not s) in
    let d = if-then (eqb (length c) (commit_length g)) (Octets (commit_body g t c)) Outside (Octets s) b.1 (outside-not s) in
    record { supported = a.0; token = ltb-false _ _ b.0; commit = eqb-true _ _ d.0; octets = sym (octets-same _ _ d.1) }

-- a 76
pub record TokenRequestParts (g : ℕ) (t s : List ℕ) : Type 0 where
  pub some : 1 ≤ length t
  pub token : length t ≤ 256
  pub octets : s ≡ token_request_body g t

pub token-request-parts : (g : ℕ) (t s : List ℕ) → draw_token_request g t ≡ Octets s → TokenRequestParts g t s
unfolding draw_token_request
token-request-parts g t s e =
    let a = if-else (eqb (length t) 0) Outside _ (Octets s) e (outside-not s) in
    let b = if-else (ltb 256 (length t)) Outside (Octets (token_request_body g t)) (Octets s) a.1 (outside-not s) in
    let n : length t ≡ 0 → ⊥ = eqb-false _ _ a.0 in
    record { some = one (length t) n; token = ltb-false _ _ b.0; octets = sym (octets-same _ _ b.1) }
  where
    one : (n : ℕ) → (n ≡ 0 → ⊥) → 1 ≤ n
    one n h = omega arith

-- a 77
pub group-refusal-parts : (g : ℕ) (s : List ℕ) → draw_group_refusal g ≡ Octets s → s ≡ group_refusal_body g
unfolding draw_group_refusal
group-refusal-parts g s e = sym (octets-same _ _ e)

-- a status 0 Confirm
pub record ConfirmParts (n : ℕ) (v s : List ℕ) : Type 0 where
  pub value : length v ≡ 32
  pub octets : s ≡ confirm_body n v

pub confirm-parts : (n : ℕ) (v s : List ℕ) → draw_confirm n v ≡ Octets s → ConfirmParts n v s
unfolding draw_confirm
confirm-parts n v s e =
    let a = if-then (eqb (length v) 32) (Octets (confirm_body n v)) Outside (Octets s) e (outside-not s) in
    record { value = eqb-true _ _ a.0; octets = sym (octets-same _ _ a.1) }

-- ---- what is written reads back, from whatever parts, for every list that has a Commit's group

pub record ReadsBack (gs s : List ℕ) (q x g n : ℕ) (t r : List ℕ) : Type 0 where
  pub reads : read_body gs s ≡ parts_read q x g n (length t)
  pub token : part s 8 (length t) ≡ t
  pub rest : part s (8 + length t) (length r) ≡ r

module _ (gs hs : List ℕ) (g n : ℕ) (t r s : List ℕ) (gb : g < 65536) (nb : n < 65536) where
  commit-reads-back : listed hs g ≡ true → draw_commit gs g t r ≡ Octets s → ReadsBack hs s 1 0 g n t r
  unfolding parts_read commit_body
  commit-reads-back l e =
      let w : CommitParts gs g t r s = commit-parts gs g t r s e in
      let o : s ≡ body 1 0 g t r = w.octets in
      record { reads = rw o (commit-reads hs g t r l gb w.token w.commit); token = rw o (body-token 1 0 g t r); rest = rw o (body-rest 1 0 g t r) }

  request-reads-back : length r ≡ 0 → draw_token_request g t ≡ Octets s → ReadsBack hs s 1 76 g n t r
  unfolding parts_read token_request_body
  request-reads-back z e =
      let w : TokenRequestParts g t s = token-request-parts g t s e in
      let o : s ≡ body 1 76 g t [] = w.octets in
      let i : r ≡ [] = empty r z in
      record { reads = rw o (token-request-reads hs g t gb w.some w.token); token = rw o (body-token 1 76 g t []); rest = rw (o, i) (body-rest 1 76 g t []) }

  refusal-reads-back : length t ≡ 0 → length r ≡ 0 → draw_group_refusal g ≡ Octets s → ReadsBack hs s 1 77 g n t r
  unfolding parts_read group_refusal_body
  refusal-reads-back y z e =
      let o : s ≡ body 1 77 g [] [] = group-refusal-parts g s e in
      let i : t ≡ [] = empty t y in
      let j : r ≡ [] = empty r z in
      record { reads = rw o (group-refusal-reads hs g gb); token = rw (o, i) (body-token 1 77 g [] []); rest = rw (o, i, j) (body-rest 1 77 g [] []) }

  confirm-reads-back : length t ≡ 0 → draw_confirm n r ≡ Octets s → ReadsBack hs s 2 0 g n t r
  unfolding parts_read confirm_body
  confirm-reads-back y e =
      let w : ConfirmParts n r s = confirm-parts n r s e in
      let o : s ≡ body 2 0 n [] r = w.octets in
      let i : t ≡ [] = empty t y in
      record { reads = rw o (confirm-reads hs n r nb w.value); token = rw (o, i) (body-token 2 0 n [] r); rest = rw (o, i) (body-rest 2 0 n [] r) }

  commits-read-back : (x : ℕ) → (x ≡ 0 → listed hs g ≡ true) → draw_commits gs x g t r ≡ Octets s → ReadsBack hs s 1 x g n t r
  unfolding draw_commits
  commits-read-back x l e = zeroth (eqb x 0) refl e
    where
      third : (b : Bool) → eqb x 77 ≡ b → (if b then (if eqb (length t) 0 then (if eqb (length r) 0 then draw_group_refusal g else Outside) else Outside) else Outside) ≡ Octets s → ReadsBack hs s 1 x g n t r
      third true p k =
          let i : x ≡ 77 = eqb-true _ _ p in
          let a = if-then (eqb (length t) 0) _ Outside (Octets s) k (outside-not s) in
          let c = if-then (eqb (length r) 0) (draw_group_refusal g) Outside (Octets s) a.1 (outside-not s) in
          rw i (refusal-reads-back (eqb-true _ _ a.0) (eqb-true _ _ c.0) c.1)
      third false p k = absurd (outside-not s k)

      second : (b : Bool) → eqb x 76 ≡ b → (if b then (if eqb (length r) 0 then draw_token_request g t else Outside)
          else if eqb x 77 then (if eqb (length t) 0 then (if eqb (length r) 0 then draw_group_refusal g else Outside) else Outside) else Outside) ≡ Octets s → ReadsBack hs s 1 x g n t r
      second true p k =
          let i : x ≡ 76 = eqb-true _ _ p in
          let a = if-then (eqb (length r) 0) (draw_token_request g t) Outside (Octets s) k (outside-not s) in
          rw i (request-reads-back (eqb-true _ _ a.0) a.1)
      second false p k = third (eqb x 77) refl k

      zeroth : (b : Bool) → eqb x 0 ≡ b → (if b then draw_commit gs g t r else if eqb x 76 then (if eqb (length r) 0 then draw_token_request g t else Outside)
          else if eqb x 77 then (if eqb (length t) 0 then (if eqb (length r) 0 then draw_group_refusal g else Outside) else Outside) else Outside) ≡ Octets s → ReadsBack hs s 1 x g n t r
      zeroth true p k = let i : x ≡ 0 = eqb-true _ _ p in rw i (commit-reads-back (l i) k)
      zeroth false p k = second (eqb x 76) refl k

  confirms-read-back : (x : ℕ) → draw_confirms x g n t r ≡ Octets s → ReadsBack hs s 2 x g n t r
  unfolding draw_confirms
  confirms-read-back x e =
      let a = if-then (eqb x 0) _ Outside (Octets s) e (outside-not s) in
      let b = if-then (eqb g 0) _ Outside (Octets s) a.1 (outside-not s) in
      let c = if-then (eqb (length t) 0) (draw_confirm n r) Outside (Octets s) b.1 (outside-not s) in
      let i : x ≡ 0 = eqb-true _ _ a.0 in
      rw i (confirm-reads-back (eqb-true _ _ c.0) c.1)

  pub written-reads : (q x : ℕ) → (q ≡ 1 → x ≡ 0 → listed hs g ≡ true) → parts_body gs q x g n t r ≡ Octets s → ReadsBack hs s q x g n t r
  unfolding parts_body
  written-reads q x l e = go (eqb q 1) refl e
    where
      go : (b : Bool) → eqb q 1 ≡ b → (if b then (if eqb n 0 then draw_commits gs x g t r else Outside) else if eqb q 2 then draw_confirms x g n t r else Outside) ≡ Octets s → ReadsBack hs s q x g n t r
      go true p k =
          let i : q ≡ 1 = eqb-true _ _ p in
          let a = if-then (eqb n 0) (draw_commits gs x g t r) Outside (Octets s) k (outside-not s) in
          rw i (commits-read-back x (l i) a.1)
      go false p k =
          let a = if-then (eqb q 2) (draw_confirms x g n t r) Outside (Octets s) k (outside-not s) in
          let i : q ≡ 2 = eqb-true _ _ a.0 in
          rw i (confirms-read-back x a.1)

-- the writer from parts is the writer of each frame
module _ (gs : List ℕ) (t r : List ℕ) where
  pub parts-commit-is : (g : ℕ) → parts_body gs 1 0 g 0 t r ≡ draw_commit gs g t r
  unfolding parts_body draw_commits
  parts-commit-is g = refl

  pub parts-request-is : (g : ℕ) → parts_body gs 1 76 g 0 t [] ≡ draw_token_request g t
  unfolding parts_body draw_commits
  parts-request-is g = refl

  pub parts-refusal-is : (g : ℕ) → parts_body gs 1 77 g 0 [] [] ≡ draw_group_refusal g
  unfolding parts_body draw_commits
  parts-refusal-is g = refl

  pub parts-confirm-is : (n : ℕ) → parts_body gs 2 0 0 n [] r ≡ draw_confirm n r
  unfolding parts_body draw_confirms
  parts-confirm-is n = refl
