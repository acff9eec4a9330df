-- The round trips of the writer's calls: the parts that a reader hands back are written as the same octets, and what is written reads back as its parts.
use mathlib.Core.Path.{◌≡◌, refl, sym, ap, ◌∙◌, subst}
use mathlib.Core.Bool.{Bool, true, false}
use mathlib.Core.List.{List, [], ◌∷◌}
use mathlib.Core.Logic.{◌⊎◌, inl, inr}
use Prim.Native.Nat.{ℕ, ◌≤◌, ◌<◌}
use native.Mathlib.Omega.{arith}
use lib.Dec.{eqb, lit<}
use lib.ListN.{length, take}
use lib.Seq.{take_all, length-take-le}
use borrow.Author.Tests.{lt-ltb, le-ltb, eqb-true}
use Rattle.octets.specs.Octets.{part, Bytes}
use Rattle.std.specs.Prelude.{if◌then◌else◌, Some, Result, Ok, Err, Option, None}
use Rattle.frame.specs.Frame.{read_body, token_of, commit_of, value_of, commit_body, token_request_body, group_refusal_body, confirm_body}
use Rattle.frame.specs.declared.Body.TheVariants as body
use Rattle.frame.specs.Writing.{Drawn, Octets, Outside, draw_confirm, draw_commits, draw_confirms, parts_body, written, leaves}
use Rattle.frame.proofs.Shapes.{if-then, if-else, confirm-shape}
use Rattle.frame.proofs.RoundTrip.{commit-again, token-request-again, group-refusal-again, confirm-first}
use Rattle.frame.proofs.RoundTrip.{commit-reads, commit-token-back, commit_back, token-request-reads, token-request-back}
use Rattle.frame.proofs.RoundTrip.{group-refusal-reads, confirm-reads, confirm-back}
use Rattle.frame.proofs.Wrote.{CommitParts, commit-parts, TokenRequestParts, token-request-parts, group-refusal-parts, ConfirmParts, confirm-parts}
use Rattle.frame.proofs.Wrote.{parts-commit-is, parts-request-is, parts-refusal-is, parts-confirm-is}
use Rattle.frame.proofs.Wrote as frame-wrote
use Rattle.record.specs.declared.Peer.{Peer}
use Rattle.table.specs.Table.{decode_table, slot, look, look_by, sound, entry, finds}
use Rattle.table.proofs.Laws.{entry-found}
use Rattle.rules.specs.Book.{◌is◌, ◌isnt◌}
use Rattle.message.specs.View.{view}
use Rattle.causes.specs.declared.Refusal.TheVariants as why
use Rattle.writer.specs.Writer.{LeftOut, refuse_out, draws, writes_parts, record_commit, record_confirm, record_body, writes_record_by, writes_record}
use Rattle.writer.specs.RoundTrip.{Parts, rest_of, parts_in, groups_in, writes_from, Copied, Again, CommitAgain, ConfirmAgain}
use Rattle.writer.specs.RoundTrip.{Supports, Numbers, Back, commit_parts, confirm_parts, record_parts}
use Rattle.writer.proofs.Theorems.{fits}
use Rattle.causes.specs.declared.Refusal.{Refusal}

abbrev made : ℕ → ℕ → ℕ → ℕ → List ℕ → List ℕ → Parts
made q x g n t r = record { sequence = q; status = x; group = g; counter = n; token = t; rest = r }

-- ---- the parts of each shape

module _ (gs s : List ℕ) where
  commit-in : (g n : ℕ) → read_body gs s ≡ Some (body.Commit g n) → parts_in gs s ≡ made 1 0 g 0 (token_of s n) (commit_of s g n)
  unfolding parts_in view rest_of
  commit-in g n e = rw e

  request-in : (g n : ℕ) → read_body gs s ≡ Some (body.TokenRequest g n) → parts_in gs s ≡ made 1 76 g 0 (token_of s n) []
  unfolding parts_in view rest_of
  request-in g n e = rw e

  refusal-in : (g : ℕ) → read_body gs s ≡ Some (body.GroupRefusal g) → parts_in gs s ≡ made 1 77 g 0 [] []
  unfolding parts_in view rest_of token_of part
  refusal-in g e = rw e

  confirm-in : (n : ℕ) → read_body gs s ≡ Some (body.Confirm n) → parts_in gs s ≡ made 2 0 0 n [] (value_of s)
  unfolding parts_in view rest_of token_of part
  confirm-in n e = rw e

-- ---- once read, written again

copied : (s out : List ℕ) → Copied s out (draws (Octets s) out)
unfolding draws written leaves
copied s out = record { whole = λ h. rw (le-ltb (length out) (length s) h); short = λ h. rw (lt-ltb (length out) (length s) h) }

abbrev drawn_from : List ℕ → Parts → Drawn
drawn_from gs p = parts_body gs p.sequence p.status p.group p.counter p.token p.rest

module _ (t s : List ℕ) (k : sound t ≡ true) where
  abbrev list : List ℕ
  list = groups_in t

  drawn-copied : (u : List ℕ) (p : Parts) → parts_in list s ≡ p → drawn_from list p ≡ Octets u → (out : List ℕ) → Copied u out (writes_from t (parts_in list s) out)
  unfolding writes_parts
  drawn-copied u p e d out = rw (e, k, d) (copied u out)

  drawn-again : (p : Parts) → parts_in list s ≡ p → drawn_from list p ≡ Octets s → Again t s
  drawn-again p e d = record { again = drawn-copied s p e d }

  pub commits-again : Bytes s → CommitAgain t s
  commits-again b =
      record {
        commit = λ g n e. drawn-again _ (commit-in list s g n e) (parts-commit-is list _ _ g ∙ commit-again list s g n b e);
        token_request = λ g n e. drawn-again _ (request-in list s g n e) (parts-request-is list _ [] g ∙ token-request-again list s g n b e);
        group_refusal = λ g e. drawn-again _ (refusal-in list s g e) (parts-refusal-is list [] [] g ∙ group-refusal-again list s g b e);
      }

  -- of any status 0 Confirm the first 40 octets
  confirm-copied : Bytes s → (n : ℕ) → read_body list s ≡ Some (body.Confirm n) → (out : List ℕ) → Copied (take 40 s) out (writes_from t (parts_in list s) out)
  confirm-copied b n e = drawn-copied (take 40 s) _ (confirm-in list s n e) (parts-confirm-is list [] _ n ∙ confirm-first list s n b e)

  -- two lengths answered for one buffer are one
  copied-long : (u v out : List ℕ) (l : LeftOut) → length u ≤ length out → length v ≤ length out → Copied u out l → Copied v out l → length u ≡ length v
  copied-long u v out l h j c d = same (sym (ap (λ (x : LeftOut). x.answer) (c.whole h)) ∙ ap (λ (x : LeftOut). x.answer) (d.whole j))
    where
      same : ◌≡◌ {A = Result ℕ Refusal} (Ok (length u)) (Ok (length v)) → length u ≡ length v
      same q = cc

  pub confirms-again : Bytes s → ConfirmAgain t s
  confirms-again b =
      record {
        first = confirm-copied b;
        confirm = λ n e l. record { again = λ out. subst (λ (u : List ℕ). Copied u out (writes_from t (parts_in list s) out)) (take_all 40 s (omega arith)) (confirm-copied b n e out) };
        only = λ n e a.
            let l : length (take 40 s) ≡ 40 = length-take-le 40 s (confirm-shape list s n e).total in
            let h : 40 ≤ length s = (confirm-shape list s n e).total in
            sym (copied-long (take 40 s) s s _ (omega arith) (omega arith) (confirm-copied b n e s) (a.again s)) ∙ l;
      }

-- ---- which parts make a frame

outside-not : (s : List ℕ) → Outside ≡ Octets s → ⊥
outside-not s e = let z : ◌≡◌ {A = ℕ} 0 1 = cc in omega arith

empty : (t : List ℕ) → length t ≡ 0 → t ≡ []
empty [] e = refl
empty (x ∷ t) e = absurd (omega arith)

either : {A : Type 0} {x y z : A} (b : Bool) → (if b then x else y) ≡ z → ((b ≡ true) × (x ≡ z)) ⊎ ((b ≡ false) × (y ≡ z))
either true e = inl (refl, e)
either false e = inr (refl, e)

-- a test that stands before a frame's octets was passed
passed : {s : List ℕ} {d : Drawn} (b : Bool) → (if b then d else Outside) ≡ Octets s → (b ≡ true) × (d ≡ Octets s)
passed {s} {d} b e = if-then b d Outside (Octets s) e (outside-not s)

-- the shapes that are written, each with its octets s
data Drew (gs s : List ℕ) : Parts → Type 0 where
  drew_commit : {g : ℕ} {t r : List ℕ} → CommitParts gs g t r s → Drew gs s (made 1 0 g 0 t r)
  drew_request : {g : ℕ} {t : List ℕ} → TokenRequestParts g t s → Drew gs s (made 1 76 g 0 t [])
  drew_refusal : {g : ℕ} → s ≡ group_refusal_body g → Drew gs s (made 1 77 g 0 [] [])
  drew_confirm : {n : ℕ} {r : List ℕ} → ConfirmParts n r s → Drew gs s (made 2 0 0 n [] r)

module _ (gs s : List ℕ) (g : ℕ) (t r : List ℕ) where
  commits-drew : (x : ℕ) → draw_commits gs x g t r ≡ Octets s → Drew gs s (made 1 x g 0 t r)
  unfolding draw_commits
  commits-drew x e = elim (either (eqb x 0) e) [
    | inl z ↦ rw (eqb-true x 0 z.0) (drew_commit (commit-parts gs g t r s z.1))
    | inr y ↦ elim (either (eqb x 76) y.1) [
      | inl z ↦
          let a = passed (eqb (length r) 0) z.1 in
          rw (eqb-true x 76 z.0, empty r (eqb-true _ _ a.0)) (drew_request (token-request-parts g t s a.1))
      | inr z ↦
          let a = passed (eqb x 77) z.1 in
          let b = passed (eqb (length t) 0) a.1 in
          let c = passed (eqb (length r) 0) b.1 in
          rw (eqb-true x 77 a.0, empty t (eqb-true _ _ b.0), empty r (eqb-true _ _ c.0)) (drew_refusal (group-refusal-parts g s c.1))
    ]
  ]

  confirms-drew : (x n : ℕ) → draw_confirms x g n t r ≡ Octets s → Drew gs s (made 2 x g n t r)
  unfolding draw_confirms
  confirms-drew x n e =
      let a = passed (eqb x 0) e in
      let b = passed (eqb g 0) a.1 in
      let c = passed (eqb (length t) 0) b.1 in
      rw (eqb-true x 0 a.0, eqb-true g 0 b.0, empty t (eqb-true _ _ c.0)) (drew_confirm (confirm-parts n r s c.1))

  parts-drew : (q x n : ℕ) → parts_body gs q x g n t r ≡ Octets s → Drew gs s (made q x g n t r)
  unfolding parts_body
  parts-drew q x n e = elim (either (eqb q 1) e) [
    | inl z ↦ let a = passed (eqb n 0) z.1 in rw (eqb-true q 1 z.0, eqb-true n 0 a.0) (commits-drew x a.1)
    | inr z ↦ let a = passed (eqb q 2) z.1 in rw (eqb-true q 2 a.0) (confirms-drew x n a.1)
  ]

-- ---- what is written reads back

drew-back : (gs hs s : List ℕ) (p : Parts) → p.group < 65536 → p.counter < 65536 → Drew gs s p → Supports hs p → parts_in hs s ≡ p
drew-back gs hs s p gb nb (drew_commit {g} {t} {r} w) l =
    subst (λ (x : List ℕ). parts_in hs x ≡ p) (sym w.octets)
    (commit-in hs (commit_body g t r) g (length t) (commit-reads hs g t r (l refl refl) gb w.token w.commit)
    ∙ rw (commit-token-back g t r, commit_back g t r w.commit))
drew-back gs hs s p gb nb (drew_request {g} {t} w) l =
    subst (λ (x : List ℕ). parts_in hs x ≡ p) (sym w.octets)
    (request-in hs (token_request_body g t) g (length t) (token-request-reads hs g t gb w.some w.token) ∙ rw (token-request-back g t))
drew-back gs hs s p gb nb (drew_refusal {g} e) l =
    subst (λ (x : List ℕ). parts_in hs x ≡ p) (sym e) (refusal-in hs (group_refusal_body g) g (group-refusal-reads hs g gb))
drew-back gs hs s p gb nb (drew_confirm {n} {r} w) l =
    subst (λ (x : List ℕ). parts_in hs x ≡ p) (sym w.octets)
    (confirm-in hs (confirm_body n r) n (confirm-reads hs n r nb w.value) ∙ rw (confirm-back n r w.value))

drew-supports : (gs s : List ℕ) (p : Parts) → Drew gs s p → Supports gs p
drew-supports gs s p (drew_commit w) a b = w.supported
drew-supports gs s p (drew_request w) a b = absurd (omega arith)
drew-supports gs s p (drew_refusal e) a b = absurd (omega arith)
drew-supports gs s p (drew_confirm w) a b = absurd (omega arith)

drew-numbers : (gs s : List ℕ) (p : Parts) → p.group < 65536 → p.counter < 65536 → Drew gs s p → Numbers p
drew-numbers gs s p gb nb (drew_commit w) = record { sequence = inl refl; status = lit< tt; group = gb; counter = nb }
drew-numbers gs s p gb nb (drew_request w) = record { sequence = inl refl; status = lit< tt; group = gb; counter = nb }
drew-numbers gs s p gb nb (drew_refusal e) = record { sequence = inl refl; status = lit< tt; group = gb; counter = nb }
drew-numbers gs s p gb nb (drew_confirm w) = record { sequence = inr refl; status = lit< tt; group = gb; counter = nb }

-- what was drawn stands in the buffer
drawn-wrote : (d : Drawn) (out : List ℕ) (m : ℕ) → (draws d out).answer ≡ Ok m → frame-wrote.Wrote d out (draws d out).out m
unfolding draws
drawn-wrote d out m e = frame-wrote.wrote d out (leaves d out) m (record { answers = sym e; left_as = refl })

module _ (t : List ℕ) (p : Parts) (d : Drawn) (out : List ℕ) (m : ℕ) (gb : p.group < 65536) (nb : p.counter < 65536) where
  drawn-back : ((s : List ℕ) → d ≡ Octets s → Drew (groups_in t) s p) → (draws d out).answer ≡ Ok m → Back t p out (draws d out).out m
  drawn-back f e =
      let w = drawn-wrote d out m e in
      let D = f _ w.frame in
      record {
        numbers = drew-numbers (groups_in t) _ p gb nb D;
        parts = λ hs l. drew-back (groups_in t) hs _ p gb nb D l;
        own = drew-supports (groups_in t) _ p D;
        fits = w.fits;
        past = w.past;
      }

-- from parts
pub parts-back : (t : List ℕ) (p : Parts) (out : List ℕ) (m : ℕ) → p.group < 65536 → p.counter < 65536
    → (writes_from t p out).answer ≡ Ok m → Back t p out (writes_from t p out).out m
unfolding writes_parts
parts-back t p out m gb nb = go (sound t)
  where
    left : Bool → LeftOut
    left b = if b then draws (drawn_from (groups_in t) p) out else refuse_out out why.Unsound

    go : (b : Bool) → (left b).answer ≡ Ok m → Back t p out (left b).out m
    go true e = drawn-back t p _ out m gb nb (λ s d. parts-drew (groups_in t) s p.group p.token p.rest p.sequence p.status p.counter d) e
    go false e = let z : ◌≡◌ {A = ℕ} 0 1 = cc in absurd (omega arith)

-- from a record
record-drew : (gs : List ℕ) (p : Peer) (q : ℕ) (value s : List ℕ) → record_body gs p q value ≡ Octets s → Drew gs s (record_parts p q value)
unfolding record_body record_commit record_confirm record_parts
record-drew gs p q value s = go (q is 1) (p.run.state is 2)
  where
    go : (b c : Bool) → (if b then record_commit gs p else if q is 2 then
        (if c then draw_confirm p.run.sc value
        else if p.run.state isnt 0 then Outside else if p.link.finished isnt 0 then draw_confirm 65535 value else Outside)
        else Outside) ≡ Octets s → Drew gs s (if b then commit_parts p else made 2 0 0 (if c then p.run.sc else 65535) [] value)
    go true c e =
        let a = if-else (p.run.state is 0) Outside _ (Octets s) e (outside-not s) in
        drew_commit (commit-parts gs p.run.group _ _ s a.1)
    go false true e = drew_confirm (confirm-parts p.run.sc value s (passed (q is 2) e).1)
    go false false e =
        let a = if-else (p.run.state isnt 0) Outside _ (Octets s) (passed (q is 2) e).1 (outside-not s) in
        drew_confirm (confirm-parts 65535 value s (passed (p.link.finished isnt 0) a.1).1)

module _ (p : Peer) (q : ℕ) (value : List ℕ) where
  record-group : p.run.group < 65536 → (record_parts p q value).group < 65536
  unfolding record_parts
  record-group h = go (q is 1)
    where
      go : (b : Bool) → (if b then commit_parts p else confirm_parts p value).group < 65536
      go true = h
      go false = lit< tt

  record-counter : p.run.sc < 65536 → (record_parts p q value).counter < 65536
  unfolding record_parts
  record-counter h = go (q is 1) (p.run.state is 2)
    where
      go : (b c : Bool) → (if b then commit_parts p else made 2 0 0 (if c then p.run.sc else 65535) [] value).counter < 65536
      go true c = lit< tt
      go false true = h
      go false false = lit< tt

module _ (t a : List ℕ) (q : ℕ) (value out : List ℕ) (m : ℕ) where
  abbrev written_of : Result (Option ℕ) Refusal → LeftOut
  written_of E = writes_record_by E t q value out

  pub record-back : Bytes t → (writes_record t a q value out).answer ≡ Ok m
      → Back t (record_parts (look (decode_table t) a) q value) out (writes_record t a q value out).out m
  unfolding writes_record writes_record_by look look_by
  record-back b = go (entry t a) refl
    where
      here : (k : ℕ) → finds (decode_table t) a ≡ Some k → slot (decode_table t) k ≡ look (decode_table t) a
      here k h = rw h

      go : (E : Result (Option ℕ) Refusal) → entry t a ≡ E → (written_of E).answer ≡ Ok m → Back t (record_parts (look (decode_table t) a) q value) out (written_of E).out m
      go (Err c) e h = let z : ◌≡◌ {A = ℕ} 0 1 = cc in absurd (omega arith)
      go (Ok None) e h = let z : ◌≡◌ {A = ℕ} 0 1 = cc in absurd (omega arith)
      go (Ok (Some k)) e h =
          let f = (fits t a k e b).run.shape in
          subst (λ (p : Peer). Back t (record_parts p q value) out (written_of (Ok (Some k))).out m) (here k (entry-found t a (Some k) e).1.1)
          (drawn-back t _ _ out m (record-group _ q value f.group) (record-counter _ q value f.sc) (λ s d. record-drew (groups_in t) _ q value s d) h)
