-- The round trips: what is written reads back, and what was read is written again as the same octets.
use mathlib.Core.Path.{◌≡◌, refl, sym, ap, ◌∙◌}
use mathlib.Core.Bool.{Bool, true, false}
use mathlib.Core.List.{List, [], ◌++◌, append_assoc, append-nil}
use Prim.Native.Nat.{ℕ, ◌+◌, ◌-◌, ◌≤◌, ◌<◌}
use native.Mathlib.Omega.{arith}
use lib.Dec.{eqb, ltb, lit<}
use lib.ListN.{length, take, drop, length-append}
use lib.Seq.{length-take-le}
use borrow.Author.Tests.{le-ltb, eq-eqb, ne_eqb}
use Rattle.octets.specs.Octets.{part, oct, all_zero, Bytes}
use Rattle.std.specs.Prelude.{if◌then◌else◌, Some, None}
use Rattle.octets.proofs.Laws.{num-oct, oct-part, part-add, part-all, length_part, bytes_take}
use Rattle.groups.specs.Groups.{width, commit_length, listed, stored}
use Rattle.groups.proofs.Laws.{commit-fits, stored-tail}
use Rattle.frame.specs.declared.Body.TheVariants.{Commit, TokenRequest, GroupRefusal, OtherCommit, Confirm, OtherConfirm}
use Rattle.frame.specs.Frame.{algorithm_of, sequence_of, status_of, group_of, counter_of, read_listed, read_token_request, read_group_refusal, read_commit, whole_elements, elements_of, read_confirm, read_body, token_of, commit_of, value_of, is_offer, head, body, commit_body, token_request_body, group_refusal_body, confirm_body}
use Rattle.frame.specs.Writing.{Octets, draw_commit, draw_token_request, draw_group_refusal, draw_confirm}
use Rattle.frame.proofs.Laws.{part-mid, length-head, length-body, commit_is}
use Rattle.frame.proofs.Reading.{listed-read, offer-listed, request-read, refusal-read, commit-offer, commit-request, commit-refusal, confirm-read, body-commit, body-confirm}
use Rattle.frame.proofs.Elements.{whole-end}
use Rattle.frame.proofs.Shapes.{CommitShape, commit-shape, TokenRequestShape, token-request-shape, GroupRefusalShape, group-refusal-shape, ConfirmShape, confirm-shape}
use Rattle.frame.proofs.Trailing.{trailing}

-- ---- the fields and the parts of a body

module _ (q x f : ℕ) (t r : List ℕ) where
  pub body-algorithm : algorithm_of (body q x f t r) ≡ 3
  unfolding part body head oct
  body-algorithm = num-oct 2 3 (lit< tt)

  pub body-sequence : q < 65536 → sequence_of (body q x f t r) ≡ q
  unfolding part body head oct
  body-sequence h = num-oct 2 q h

  pub body-status : x < 65536 → status_of (body q x f t r) ≡ x
  unfolding part body head oct
  body-status h = num-oct 2 x h

  pub body-third : f < 65536 → group_of (body q x f t r) ≡ f
  unfolding part body head oct
  body-third h = num-oct 2 f h

  pub body-token : part (body q x f t r) 8 (length t) ≡ t
  unfolding body
  body-token = part-mid (head q x f) t r 8 (length t) (length-head q x f) refl

  pub body-rest : part (body q x f t r) (8 + length t) (length r) ≡ r
  unfolding body
  body-rest =
      let e : length (head q x f ++ t) ≡ 8 + length t = simp length-append (omega (arith, length-head q x f)) in
      let a : head q x f ++ (t ++ r) ≡ (head q x f ++ t) ++ (r ++ []) = simp (append_assoc, append-nil) in
      ap (λ (s : List ℕ). part s (8 + length t) (length r)) a ∙ part-mid (head q x f ++ t) r [] (8 + length t) (length r) e refl

-- ---- what is written reads back

-- a status 0 Commit, for every list that has the group
pub commit-reads : (gs : List ℕ) (g : ℕ) (t c : List ℕ) → listed gs g ≡ true → g < 65536 → length t ≤ 256 → length c ≡ commit_length g → read_body gs (commit_body g t c) ≡ Some (Commit g (length t))
unfolding commit_body
commit-reads gs g t c l h k e =
    let n : length (body 1 0 g t c) ≡ 8 + length t + length c = length-body 1 0 g t c in
    let w : commit_length g ≤ width = commit-fits g in
    let m : length (body 1 0 g t c) - (8 + commit_length g) ≡ length t = omega arith in
    let r : Some (Commit g (length t)) ≡ read_listed g (body 1 0 g t c) =
    ap (λ n. Some (Commit g n)) (sym m) ∙ listed-read g (body 1 0 g t c) 8 (commit_length g) refl refl (omega arith) (omega arith) in
    sym (body-commit gs (body 1 0 g t c) 3 (omega arith) (omega arith) (sym (body-algorithm 1 0 g t c)) 1 (sym (body-sequence 1 0 g t c (lit< tt))) refl _ refl
    (commit-offer gs (body 1 0 g t c) 0 (sym (body-status 1 0 g t c (lit< tt))) _ refl
    (offer-listed gs (body 1 0 g t c) g true (omega arith) (sym (body-third 1 0 g t c h)) (sym l) _ refl r)))

pub commit-token-back : (g : ℕ) (t c : List ℕ) → token_of (commit_body g t c) (length t) ≡ t
unfolding commit_body token_of
commit-token-back g t c = body-token 1 0 g t c

pub commit_back : (g : ℕ) (t c : List ℕ) → length c ≡ commit_length g → commit_of (commit_body g t c) g (length t) ≡ c
unfolding commit_body
commit_back g t c e = commit_is (body 1 0 g t c) g (length t) ∙ ap (part (body 1 0 g t c) (8 + length t)) (sym e) ∙ body-rest 1 0 g t c

-- a 76, for every list
pub token-request-reads : (gs : List ℕ) (g : ℕ) (t : List ℕ) → g < 65536 → 1 ≤ length t → length t ≤ 256 → read_body gs (token_request_body g t) ≡ Some (TokenRequest g (length t))
unfolding token_request_body
token-request-reads gs g t h j k =
    let n : length (body 1 76 g t []) ≡ 8 + length t + 0 = length-body 1 76 g t [] in
    let m : length (body 1 76 g t []) - 8 ≡ length t = omega arith in
    let r : Some (TokenRequest g (length t)) ≡ read_token_request (body 1 76 g t []) =
    ap (λ n. Some (TokenRequest g n)) (sym m) ∙ request-read (body 1 76 g t []) g 8 (omega arith) (omega arith) (sym (body-third 1 76 g t [] h)) refl in
    sym (body-commit gs (body 1 76 g t []) 3 (omega arith) (omega arith) (sym (body-algorithm 1 76 g t [])) 1 (sym (body-sequence 1 76 g t [] (lit< tt))) refl _ refl
    (commit-request gs (body 1 76 g t []) 76 (sym (body-status 1 76 g t [] (lit< tt))) _ refl r))

pub token-request-back : (g : ℕ) (t : List ℕ) → token_of (token_request_body g t) (length t) ≡ t
unfolding token_request_body token_of
token-request-back g t = body-token 1 76 g t []

-- a 77, for every list
pub group-refusal-reads : (gs : List ℕ) (g : ℕ) → g < 65536 → read_body gs (group_refusal_body g) ≡ Some (GroupRefusal g)
unfolding group_refusal_body
group-refusal-reads gs g h =
    let n : length (body 1 77 g [] []) ≡ 8 + 0 + 0 = length-body 1 77 g [] [] in
    sym (body-commit gs (body 1 77 g [] []) 3 (omega arith) (omega arith) (sym (body-algorithm 1 77 g [] [])) 1 (sym (body-sequence 1 77 g [] [] (lit< tt))) refl _ refl
    (commit-refusal gs (body 1 77 g [] []) 77 (sym (body-status 1 77 g [] [] (lit< tt))) _ refl
    (refusal-read (body 1 77 g [] []) g (omega arith) (sym (body-third 1 77 g [] [] h)))))

-- a status 0 Confirm, for every list
pub confirm-reads : (gs : List ℕ) (n : ℕ) (v : List ℕ) → n < 65536 → length v ≡ 32 → read_body gs (confirm_body n v) ≡ Some (Confirm n)
unfolding confirm_body
confirm-reads gs n v h e =
    let l : length (body 2 0 n [] v) ≡ 8 + 0 + length v = length-body 2 0 n [] v in
    sym (body-confirm gs (body 2 0 n [] v) 3 (omega arith) (omega arith) (sym (body-algorithm 2 0 n [] v)) 2 (sym (body-sequence 2 0 n [] v (lit< tt))) refl _ refl
    (confirm-read (body 2 0 n [] v) 0 (sym (body-status 2 0 n [] v (lit< tt))) refl (omega arith) 8 true refl (sym (whole-end (body 2 0 n [] v) 40 (omega arith))) n refl (sym (body-third 2 0 n [] v h))))

pub confirm-back : (n : ℕ) (v : List ℕ) → length v ≡ 32 → value_of (confirm_body n v) ≡ v
unfolding confirm_body value_of
confirm-back n v e = ap (part (body 2 0 n [] v) 8) (sym e) ∙ body-rest 2 0 n [] v

-- ---- a written 76, 77 or Confirm never reads as a status 0 Commit, in whatever group, for every list and whatever its parts

offer-status : (gs s : List ℕ) → (status_of s ≡ 0 → ⊥) → is_offer (read_body gs s) ≡ false
unfolding read_body read_commit read_confirm read_token_request read_group_refusal
offer-status gs s h =
    rw (ne_eqb (status_of s) 0 h)
    (go (ltb (length s) 6) (ltb 2304 (length s)) (eqb (algorithm_of s) 3) (eqb (sequence_of s) 1) (eqb (sequence_of s) 2)
    (eqb (status_of s) 76) (ltb (length s) 9) (ltb 264 (length s)) (eqb (status_of s) 77) (eqb (length s) 8))
  where
    go : (a b c d e f i j k l : Bool) → is_offer
        (if a then None else if b then None else if c then
        (if d then
        (if f then (if i then None else if j then None else Some (TokenRequest (group_of s) (length s - 8)))
        else if k then (if l then Some (GroupRefusal (group_of s)) else None) else Some (OtherCommit (status_of s)))
        else if e then Some (OtherConfirm (status_of s)) else None)
        else None) ≡ false
    go true b c d e f i j k l = refl
    go false true c d e f i j k l = refl
    go false false false d e f i j k l = refl
    go false false true false true f i j k l = refl
    go false false true false false f i j k l = refl
    go false false true true e true true j k l = refl
    go false false true true e true false true k l = refl
    go false false true true e true false false k l = refl
    go false false true true e false i j true true = refl
    go false false true true e false i j true false = refl
    go false false true true e false i j false l = refl

offer-sequence : (gs s : List ℕ) → (sequence_of s ≡ 1 → ⊥) → is_offer (read_body gs s) ≡ false
unfolding read_body read_confirm
offer-sequence gs s h =
    rw (ne_eqb (sequence_of s) 1 h)
    (go (ltb (length s) 6) (ltb 2304 (length s)) (eqb (algorithm_of s) 3) (eqb (sequence_of s) 2) (eqb (status_of s) 0) (ltb (length s) 40) (whole_elements (elements_of s)))
  where
    go : (a b c d e f i : Bool) → is_offer
        (if a then None else if b then None else if c then
        (if d then (if e then (if f then None else if i then Some (Confirm (counter_of s)) else None) else Some (OtherConfirm (status_of s))) else None)
        else None) ≡ false
    go true b c d e f i = refl
    go false true c d e f i = refl
    go false false false d e f i = refl
    go false false true false e f i = refl
    go false false true true false f i = refl
    go false false true true true true i = refl
    go false false true true true false true = refl
    go false false true true true false false = refl

pub token-request-no-offer : (gs : List ℕ) (g : ℕ) (t : List ℕ) → is_offer (read_body gs (token_request_body g t)) ≡ false
unfolding token_request_body
token-request-no-offer gs g t = offer-status gs (body 1 76 g t []) (λ z. omega (arith, body-status 1 76 g t [] (lit< tt)))

pub group-refusal-no-offer : (gs : List ℕ) (g : ℕ) → is_offer (read_body gs (group_refusal_body g)) ≡ false
unfolding group_refusal_body
group-refusal-no-offer gs g = offer-status gs (body 1 77 g [] []) (λ z. omega (arith, body-status 1 77 g [] [] (lit< tt)))

pub confirm-no-offer : (gs : List ℕ) (n : ℕ) (v : List ℕ) → is_offer (read_body gs (confirm_body n v)) ≡ false
unfolding confirm_body
confirm-no-offer gs n v = offer-sequence gs (body 2 0 n [] v) (λ z. omega (arith, body-sequence 2 0 n [] v (lit< tt)))

-- ---- what was read is written again as the same octets

-- octets are the body of their own fields and parts
body-whole : (s : List ℕ) (n m : ℕ) → Bytes s → algorithm_of s ≡ 3 → length s ≡ 8 + n + m → body (sequence_of s) (status_of s) (group_of s) (part s 8 n) (part s (8 + n) m) ≡ s
unfolding body head
body-whole s n m b a l =
    let p : oct 2 3 ≡ part s 0 2 = ap (oct 2) (sym a) ∙ oct-part s 0 2 b (omega arith) in
    let q : oct 2 (sequence_of s) ≡ part s 2 2 = oct-part s 2 2 b (omega arith) in
    let x : oct 2 (status_of s) ≡ part s 4 2 = oct-part s 4 2 b (omega arith) in
    let f : oct 2 (group_of s) ≡ part s 6 2 = oct-part s 6 2 b (omega arith) in
    let h : part s 0 2 ++ (part s 2 2 ++ (part s 4 2 ++ part s 6 2)) ≡ part s 0 8 =
    sym (part-add s 0 2 6 ∙ ap (λ (k : List ℕ). part s 0 2 ++ k) (part-add s 2 2 4 ∙ ap (λ (k : List ℕ). part s 2 2 ++ k) (part-add s 4 2 2))) in
    let e : length s ≡ 8 + (n + m) = omega arith in
    rw (p, q, x, f, h) (ap (λ (k : List ℕ). part s 0 8 ++ k) (sym (part-add s 8 n m)) ∙ sym (part-add s 0 8 (n + m)) ∙ part-all s (8 + (n + m)) e)

-- a status 0 Commit in a listed group
pub commit-again : (gs s : List ℕ) (g n : ℕ) → Bytes s → read_body gs s ≡ Some (Commit g n) → draw_commit gs g (token_of s n) (commit_of s g n) ≡ Octets s
unfolding draw_commit commit_body token_of
commit-again gs s g n b e =
    let w : CommitShape gs s g n = commit-shape gs s g n e in
    let l : length s ≡ 8 + n + commit_length g = w.total in
    let i : length (part s 8 n) ≡ n = length_part s 8 n (omega arith) in
    let j : length (part s (8 + n) (commit_length g)) ≡ commit_length g = length_part s (8 + n) (commit_length g) (omega arith) in
    let o : body 1 0 g (part s 8 n) (part s (8 + n) (commit_length g)) ≡ s =
    let z = body-whole s n (commit_length g) b w.head.algorithm l in (rw (w.sequence, w.status, w.group) at z) in
    rw (commit_is s g n, w.supported, le-ltb 256 (length (part s 8 n)) (within (length (part s 8 n)) n i w.token), eq-eqb (length (part s (8 + n) (commit_length g))) (commit_length g) j) (ap Octets o)
  where
    within : (k n : ℕ) → k ≡ n → n ≤ 256 → k ≤ 256
    within k n e h = omega arith

part_none : (s : List ℕ) (at : ℕ) → part s at 0 ≡ []
unfolding part
part_none s at = refl

-- a stored commit is scalar and element, then zeros
pub commit-length-read : (gs s : List ℕ) (g n : ℕ) → read_body gs s ≡ Some (Commit g n) → length (commit_of s g n) ≡ commit_length g
commit-length-read gs s g n e =
    let w : CommitShape gs s g n = commit-shape gs s g n e in
    let l : length s ≡ 8 + n + commit_length g = w.total in
    ap length (commit_is s g n) ∙ length_part s (8 + n) (commit_length g) (omega arith)

pub commit-tail : (gs s : List ℕ) (g n : ℕ) → read_body gs s ≡ Some (Commit g n) → all_zero (drop (commit_length g) (stored (commit_of s g n))) ≡ true
commit-tail gs s g n e = stored-tail (commit_of s g n) (commit_length g) (commit-length-read gs s g n e)

-- a 76
pub token-request-again : (gs s : List ℕ) (g n : ℕ) → Bytes s → read_body gs s ≡ Some (TokenRequest g n) → draw_token_request g (token_of s n) ≡ Octets s
unfolding draw_token_request token_request_body token_of
token-request-again gs s g n b e =
    let w : TokenRequestShape s g n = token-request-shape gs s g n e in
    let l : length s ≡ 8 + n = w.total in
    let k : length s ≡ 8 + n + 0 = omega arith in
    let i : length (part s 8 n) ≡ n = length_part s 8 n (omega arith) in
    let o : body 1 76 g (part s 8 n) [] ≡ s =
    let z = body-whole s n 0 b w.head.algorithm k in ap (body 1 76 g (part s 8 n)) (sym (part_none s (8 + n))) ∙ (rw (w.sequence, w.status, w.group) at z) in
    rw (ne_eqb (length (part s 8 n)) 0 (some (length (part s 8 n)) n i w.some), le-ltb 256 (length (part s 8 n)) (within (length (part s 8 n)) n i w.token)) (ap Octets o)
  where
    within : (k n : ℕ) → k ≡ n → n ≤ 256 → k ≤ 256
    within k n e h = omega arith

    some : (k n : ℕ) → k ≡ n → 1 ≤ n → k ≡ 0 → ⊥
    some k n e h z = omega arith

-- a 77
pub group-refusal-again : (gs s : List ℕ) (g : ℕ) → Bytes s → read_body gs s ≡ Some (GroupRefusal g) → draw_group_refusal g ≡ Octets s
unfolding draw_group_refusal group_refusal_body part
group-refusal-again gs s g b e =
    let w : GroupRefusalShape s g = group-refusal-shape gs s g e in
    let z = body-whole s 0 0 b w.head.algorithm w.total in
    ap Octets (rw (w.sequence, w.status, w.group) at z)

-- a status 0 Confirm of 40 octets
confirm_again : (gs s : List ℕ) (n : ℕ) → Bytes s → read_body gs s ≡ Some (Confirm n) → length s ≡ 40 → draw_confirm n (value_of s) ≡ Octets s
unfolding draw_confirm confirm_body value_of part
confirm_again gs s n b e l =
    let w : ConfirmShape s n = confirm-shape gs s n e in
    let i : length (take 32 (drop 8 s)) ≡ 32 = length_part s 8 32 (omega arith) in
    let z = body-whole s 0 32 b w.head.algorithm l in
    rw (eq-eqb (length (take 32 (drop 8 s))) 32 i) (ap Octets (rw (w.sequence, w.status, w.counter) at z))

-- "The writer still writes 40": of any status 0 Confirm the first 40 octets
pub confirm-first : (gs s : List ℕ) (n : ℕ) → Bytes s → read_body gs s ≡ Some (Confirm n) → draw_confirm n (value_of s) ≡ Octets (take 40 s)
confirm-first gs s n b e =
    let w = trailing gs s n e in
    ap (draw_confirm n) (sym w.value) ∙ confirm_again gs (take 40 s) n (bytes_take 40 s b) (w.first gs) (length-take-le 40 s (confirm-shape gs s n e).total)
