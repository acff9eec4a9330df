-- Laws of bodies: where each part of a body stands, and what the stores of a writer make.
use Rattle.std.specs.Prelude.{Result, Ok, Err}
use mathlib.Core.Path.{◌≡◌, refl, sym, ap, ◌∙◌}
use mathlib.Core.Bool.{true, false}
use mathlib.Core.List.{List, [], ◌++◌, append_assoc}
use Prim.Native.Nat.{ℕ, ◌+◌, ◌-◌, ◌≤◌, ◌<◌}
use native.Mathlib.Omega.{arith}
use lib.Dec.{ltb}
use lib.ListN.{length, take, drop, length-append, length-take, length-drop, drop_of_length-le}
use lib.Seq.{take_at, drop_at, take_all}
use borrow.Author.Tests.{lt-ltb, le-ltb}
use Rattle.octets.specs.Octets.{part, put, oct}
use Rattle.octets.proofs.Laws.{put-put, part-add}
use Rattle.groups.specs.Groups.{width, scalar_length, element_length, commit_length}
use Rattle.groups.proofs.Laws.{commit-fits}
use Rattle.frame.specs.Frame.{elements_of, token_of, scalar_of, element_of, commit_of, head, body}
use Rattle.frame.specs.Writing.{Drawn, Octets, Outside, written, leaves, Writes}
use Rattle.causes.specs.declared.Refusal.TheVariants as why
use Rattle.causes.specs.declared.Refusal.{Refusal}

-- ---- parts

-- what stands between two lists
pub part-mid : (p v q : List ℕ) (at n : ℕ) → length p ≡ at → length v ≡ n → part (p ++ (v ++ q)) at n ≡ v
unfolding part
part-mid p v q at n e f = rw (drop_at p (v ++ q) at e) (take_at v q n f)

-- nothing stands past the end, and a part ends there
pub part-past : (s : List ℕ) (at n : ℕ) → length s ≤ at → part s at n ≡ []
unfolding part
part-past s at n h = rw (drop_of_length-le s {i = at} h) (none n)
  where
    none : (n : ℕ) → take {A = ℕ} n [] ≡ []
    none n = take_all n [] (omega arith)

pub part-rest : (s : List ℕ) (at n : ℕ) → at ≤ length s → length s - at ≤ n → part s at n ≡ part s at (length s - at)
unfolding part
part-rest s at n h k =
    let e : length (drop at s) ≡ length s - at = length-drop at s in
    take_all n (drop at s) (omega arith) ∙ sym (take_all (length s - at) (drop at s) (omega arith))

-- what the functions that hand parts out answer
module _ (s : List ℕ) (n : ℕ) where
  pub token-past : length s < 8 → take (length s - length s) (drop (length s) s) ≡ token_of s n
  unfolding token_of part
  token-past h = part-past s (length s) (length s - length s) (omega arith) ∙ sym (part-past s 8 n (omega arith))

  pub token-rest : 8 ≤ length s → length s - 8 < n → take (length s - 8) (drop 8 s) ≡ token_of s n
  unfolding token_of part
  token-rest h k = sym (part-rest s 8 n h (omega arith))

  pub token-whole : (r : List ℕ) → r ≡ part s 8 n → r ≡ token_of s n
  unfolding token_of
  token-whole r e = e

-- what follows a Confirm's 40 octets
module _ (s : List ℕ) where
  pub elements-past : length s < 40 → take (length s - length s) (drop (length s) s) ≡ elements_of s
  unfolding elements_of part
  elements-past h = part-past s (length s) (length s - length s) (omega arith) ∙ sym (drop_of_length-le s {i = 40} (omega arith))

  pub elements-rest : (r : List ℕ) → 40 ≤ length s → r ≡ part s 40 (length s - 40) → r ≡ elements_of s
  unfolding elements_of part
  elements-rest r h e = e ∙ take_all (length s - 40) (drop 40 s) (omega (arith, length-drop 40 s))

-- scalar and element are one part
pub commit_is : (s : List ℕ) (g t : ℕ) → commit_of s g t ≡ part s (8 + t) (commit_length g)
unfolding commit_of scalar_of element_of commit_length
commit_is s g t = sym (part-add s (8 + t) (scalar_length g) (element_length g))

pub commit-short : (s : List ℕ) (g t : ℕ) → length (commit_of s g t) ≤ width
unfolding part
commit-short s g t = rw (commit_is s g t, length-take) (omega (arith, commit-fits g))

module _ (s : List ℕ) (g t : ℕ) where
  pub commit-past : length s < 8 + t → take (length s - length s) (drop (length s) s) ≡ commit_of s g t
  unfolding part
  commit-past h = part-past s (length s) (length s - length s) (omega arith) ∙ sym (part-past s (8 + t) (commit_length g) (omega arith)) ∙ sym (commit_is s g t)

  pub commit-rest : (m : ℕ) → m ≡ commit_length g → 8 + t ≤ length s → length s - (8 + t) < m → take (length s - (8 + t)) (drop (8 + t) s) ≡ commit_of s g t
  unfolding part
  commit-rest m e h k = sym (part-rest s (8 + t) (commit_length g) h (omega arith)) ∙ sym (commit_is s g t)

  pub commit-whole : (m : ℕ) (r : List ℕ) → m ≡ commit_length g → r ≡ part s (8 + t) m → r ≡ commit_of s g t
  commit-whole m r e p = p ∙ ap (part s (8 + t)) e ∙ sym (commit_is s g t)

-- ---- where each part of a body stands

pub length-head : (a b c : ℕ) → length (head a b c) ≡ 8
unfolding head oct
length-head a b c = refl

pub length-body : (a b c : ℕ) (t r : List ℕ) → length (body a b c t r) ≡ 8 + length t + length r
unfolding body
length-body a b c t r = simp length-append (omega (arith, length-head a b c))

-- ---- stores

store-next : (s t u v w : List ℕ) (k : ℕ) → length v ≡ k → k + length w ≤ length s → t ≡ put s 0 v → u ≡ put t k w → u ≡ put s 0 (v ++ w)
store-next s t u v w k e h p q =
    let z : 0 + length v ≡ k = omega arith in
    q ∙ ap (λ (x : List ℕ). put x k w) p ∙ ap (λ (j : ℕ). put (put s 0 v) j w) (sym z) ∙ put-put s 0 v w (omega arith)

pub head-law : (a b c : ℕ) (s t u v w : List ℕ) → 8 ≤ length s → t ≡ put s 0 (oct 2 3) → u ≡ put t 2 (oct 2 a) → v ≡ put u 4 (oct 2 b) → w ≡ put v 6 (oct 2 c) → w ≡ put s 0 (head a b c)
unfolding head oct
head-law a b c s t u v w h p q r e =
    store-next s v w ((oct 2 3 ++ oct 2 a) ++ oct 2 b) (oct 2 c) 6 refl (omega arith)
    (store-next s u v (oct 2 3 ++ oct 2 a) (oct 2 b) 4 refl (omega arith)
    (store-next s t u (oct 2 3) (oct 2 a) 2 refl (omega arith) p q) r) e

-- ---- a writer's outcome

module _ (d : Drawn) (s : List ℕ) where
  pub outside : d ≡ Outside → Writes d s s (Err why.Body)
  unfolding written leaves
  outside e = rw e (record { answers = refl; left_as = refl })

pub drawn : (d e : Drawn) (s t : List ℕ) (r : Result ℕ Refusal) → d ≡ e → Writes e s t r → Writes d s t r
drawn d e s t r p w = rw p w

module _ (a b c : ℕ) (t r : List ℕ) (s : List ℕ) where
  pub too_long : length s < 8 + length t + length r → Writes (Octets (body a b c t r)) s s (Err why.Short)
  unfolding written leaves
  too_long h =
      let q : ltb (length s) (length (body a b c t r)) ≡ true = lt-ltb (length s) (length (body a b c t r)) (omega (arith, length-body a b c t r)) in
      record { answers = rw q; left_as = rw q }

  pub all-stored : (x y z : List ℕ) (n : ℕ) → 8 + length t + length r ≤ length s → n ≡ 8 + length t + length r → x ≡ put s 0 (head a b c) → y ≡ put x 8 t → z ≡ put y (8 + length t) r → Writes (Octets (body a b c t r)) s z (Ok n)
  unfolding written leaves body
  all-stored x y z n h m p q e =
      let l : length (head a b c ++ (t ++ r)) ≡ 8 + length t + length r = length-body a b c t r in
      let o : ltb (length s) (length (head a b c ++ (t ++ r))) ≡ false = le-ltb (length s) (length (head a b c ++ (t ++ r))) (omega arith) in
      let k : length (head a b c ++ t) ≡ 8 + length t = simp length-append (omega (arith, length-head a b c)) in
      let w : z ≡ put s 0 (head a b c ++ (t ++ r)) =
      store-next s y z (head a b c ++ t) r (8 + length t) k (omega arith) (store-next s x y (head a b c) t 8 (length-head a b c) (omega arith) p q) e
      ∙ ap (put s 0) (append_assoc (head a b c) t r) in
      record { answers = rw o (ap Ok (m ∙ sym l)); left_as = rw o w }
