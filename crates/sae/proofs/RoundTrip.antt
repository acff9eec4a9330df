-- The round trips of the C interface: the 20 octets of parts point out what the reader hands back, and the writer makes the same octets of it.
use mathlib.Core.Path.{◌≡◌, refl, sym, ap, ◌∙◌, subst}
use mathlib.Core.Bool.{Bool, true, false}
use mathlib.Core.List.{List, []}
use mathlib.Core.Logic.{⊎_elim}
use Prim.Native.Nat.{ℕ, ◌+◌, ◌^◌, ◌≤◌, ◌<◌}
use native.Mathlib.Omega.{arith}
use lib.Dec.{lit<, lit≤}
use lib.ListN.{length, take, drop, length-drop}
use lib.Seq.{take_all, length-take-le}
use borrow.Author.Tests.{ne_eqb}
use Rattle.octets.specs.Octets.{part, num, oct, Bytes}
use Rattle.causes.specs.Causes.{number}
use Rattle.std.specs.Prelude.{if◌then◌else◌, Option, Some, None, Result, Ok, Err}
use Rattle.octets.proofs.Laws.{num-oct}
use Rattle.frame.specs.Frame.{field, elements_of, read_body, token_of, value_of}
use Rattle.frame.specs.declared.Body.{Body}
use Rattle.frame.specs.declared.Body.TheVariants as body
use Rattle.frame.proofs.Laws.{commit_is}
use Rattle.frame.proofs.Shapes.{field_fits, commit-shape, other-group-shape, token-request-shape, group-refusal-shape}
use Rattle.frame.proofs.Shapes.{other-commit-shape, confirm-shape, other-confirm-shape}
use Rattle.table.specs.Table.{decode_table, look, sound}
use Rattle.rules.specs.Book.{◌is◌}
use Rattle.message.specs.declared.View.{View}
use Rattle.message.specs.View.{commit_view, confirm_view, view_of, view}
use Rattle.message.proofs.Laws.{view-short}
use Rattle.causes.specs.declared.Refusal.{Refusal}
use Rattle.causes.specs.declared.Refusal.TheVariants as why
use Rattle.writer.specs.Writer.{LeftOut, writes_record}
use Rattle.writer.specs.RoundTrip.{Parts, rest_of, parts_of, parts_in, groups_in, writes_from, Copied, Again, ConfirmAgain, Numbers, Back, record_parts}
use Rattle.writer.proofs.RoundTrip.{parts-back, record-back}
use Rattle.sae.specs.Interface.{has_token, has_value, handed_at, handed_length, rest_at, parts_octets, read_number, read_parts, Reads, wrote_number, written_left, Writes}
use Rattle.sae.specs.RoundTrip.{token_from, rest_from, pointed_out, PointsBehind, Points, WritesAs, ConfirmWritten, ReadsBack}

-- ---- the 20 octets

-- the numbers of a view, and the length of what is handed back
record Numbered (v : View) : Type 0 where
  sequence : v.sequence < 65536
  status : v.status < 65536
  group : v.group < 65536
  counter : v.counter < 65536
  toklen : v.toklen ≤ 256

record Fits (v : View) (s : List ℕ) : Type 0 where
  numbers : Numbered v
  handed : handed_length v s ≤ 2304

handed-low : (v : View) → handed_at v < 256 ^ 4
unfolding handed_at
handed-low v = go (has_token v) (has_value v)
  where
    go : (b c : Bool) → (if b then 8 else if c then 40 else 0) < 256 ^ 4
    go true c = lit< tt
    go false true = lit< tt
    go false false = lit< tt

rest-low : (v : View) → v.toklen ≤ 256 → rest_at v < 256 ^ 4
unfolding rest_at
rest-low v h = go v.listed (has_value v)
  where
    go : (b c : Bool) → (if b then 8 + v.toklen else if c then 8 else 0) < 256 ^ 4
    go true c = omega arith
    go false true = lit< tt
    go false false = lit< tt

module _ (v : View) (s : List ℕ) (f : Fits v s) where
  at-sequence : num (part (parts_octets v s) 0 2) ≡ v.sequence
  unfolding part parts_octets oct
  at-sequence = num-oct 2 v.sequence f.numbers.sequence

  at-status : num (part (parts_octets v s) 2 2) ≡ v.status
  unfolding part parts_octets oct
  at-status = num-oct 2 v.status f.numbers.status

  at-group : num (part (parts_octets v s) 4 2) ≡ v.group
  unfolding part parts_octets oct
  at-group = num-oct 2 v.group f.numbers.group

  at-counter : num (part (parts_octets v s) 6 2) ≡ v.counter
  unfolding part parts_octets oct
  at-counter = num-oct 2 v.counter f.numbers.counter

  at-handed : num (part (parts_octets v s) 8 4) ≡ handed_at v
  unfolding part parts_octets oct
  at-handed = num-oct 4 (handed_at v) (handed-low v)

  at_length : num (part (parts_octets v s) 12 4) ≡ handed_length v s
  unfolding part parts_octets oct
  at_length = num-oct 4 (handed_length v s) (omega (arith, f.handed))

  at_rest : num (part (parts_octets v s) 16 4) ≡ rest_at v
  unfolding part parts_octets oct
  at_rest = num-oct 4 (rest_at v) (rest-low v f.numbers.toklen)

abbrev laid_out : List ℕ → View → Parts
laid_out s v =
    record {
      sequence = v.sequence;
      status = v.status;
      group = v.group;
      counter = v.counter;
      token = token_from s (handed_at v) (handed_length v s) v.sequence;
      rest = rest_from s (rest_at v) v.sequence v.group;
    }

laid-out : (v : View) (s : List ℕ) → Fits v s → pointed_out (parts_octets v s) s ≡ laid_out s v
unfolding pointed_out
laid-out v s f = rw (at-sequence v s f, at-status v s f, at-group v s f, at-counter v s f, at-handed v s f, at_length v s f, at_rest v s f)

abbrev laid-confirm : List ℕ → ℕ → ℕ → Parts
laid-confirm s x at = record { sequence = 2; status = x; group = 0; counter = 0; token = []; rest = rest_from s at 2 0 }

abbrev read-confirm : List ℕ → ℕ → List ℕ → Parts
read-confirm s x rest = record { sequence = 2; status = x; group = 0; counter = 0; token = []; rest = rest }

laid_by : (s : List ℕ) (B : Option Body) → laid_out s (view_of B) ≡ parts_of s (view_of B)
unfolding handed_at handed_length rest_at token_from rest_from rest_of token_of value_of part
laid_by s (Some (body.Commit g n)) = rw (ne_eqb (8 + n) 0 (λ z. omega arith), commit_is s g n)
laid_by s (Some (body.Unsupported g)) = refl
laid_by s (Some (body.TokenRequest g n)) = refl
laid_by s (Some (body.GroupRefusal g)) = refl
laid_by s (Some (body.OtherCommit x)) = refl
laid_by s (Some (body.Confirm n)) = refl
laid_by s (Some (body.OtherConfirm x)) = go (x is 0)
  where
    go : (b : Bool) → laid-confirm s x (if b then 8 else 0) ≡ read-confirm s x (if b then value_of s else [])
    go true = refl
    go false = refl
laid_by s None = refl

-- the parts are those that the reader hands back
points : (gs s : List ℕ) → Fits (view gs s) s → pointed_out (parts_octets (view gs s) s) s ≡ parts_in gs s
unfolding parts_in view
points gs s f = laid-out (view gs s) s f ∙ laid_by s (read_body gs s)

-- ---- the numbers of a body that was read

-- what is handed back is no longer than a body
handed-by : (gs s : List ℕ) (B : Option Body) → read_body gs s ≡ B → handed_length (view_of B) s ≤ 2304
unfolding handed_length elements_of
handed-by gs s (Some (body.Commit g n)) e = omega (arith, (commit-shape gs s g n e).token)
handed-by gs s (Some (body.Unsupported g)) e = lit≤ tt
handed-by gs s (Some (body.TokenRequest g n)) e = omega (arith, (token-request-shape gs s g n e).token)
handed-by gs s (Some (body.GroupRefusal g)) e = lit≤ tt
handed-by gs s (Some (body.OtherCommit x)) e = lit≤ tt
handed-by gs s (Some (body.Confirm n)) e = omega (arith, length-drop 40 s, (confirm-shape gs s n e).head.longest)
handed-by gs s (Some (body.OtherConfirm x)) e = rw (ne_eqb x 0 (other-confirm-shape gs s x e).not_zero) (lit≤ tt)
handed-by gs s None e = lit≤ tt

handed-short : (gs s : List ℕ) → handed_length (view gs s) s ≤ 2304
unfolding view
handed-short gs s = handed-by gs s (read_body gs s) refl

module _ (gs s : List ℕ) (b : Bytes s) where
  low : (at n : ℕ) → field s at ≡ n → n < 65536
  low at n e = subst (λ (x : ℕ). x < 65536) e (field_fits s at b)

  commit-fits : (x g n : ℕ) (l : Bool) → x < 65536 → g < 65536 → n ≤ 256 → Numbered (commit_view x g l n)
  commit-fits x g n l i j k = record { sequence = lit< tt; status = i; group = j; counter = lit< tt; toklen = k }

  confirm-fits : (q x n : ℕ) → q < 65536 → x < 65536 → n < 65536 → Numbered (confirm_view q x n)
  confirm-fits q x n i j k = record { sequence = i; status = j; group = lit< tt; counter = k; toklen = omega arith }

  fits_by : (B : Option Body) → read_body gs s ≡ B → Numbered (view_of B)
  fits_by (Some (body.Commit g n)) e = let w = commit-shape gs s g n e in commit-fits 0 g n true (lit< tt) (low 6 g w.group) w.token
  fits_by (Some (body.Unsupported g)) e = commit-fits 0 g 0 false (lit< tt) (low 6 g (other-group-shape gs s g e).group) (omega arith)
  fits_by (Some (body.TokenRequest g n)) e = let w = token-request-shape gs s g n e in commit-fits 76 g n false (lit< tt) (low 6 g w.group) w.token
  fits_by (Some (body.GroupRefusal g)) e = commit-fits 77 g 0 false (lit< tt) (low 6 g (group-refusal-shape gs s g e).group) (omega arith)
  fits_by (Some (body.OtherCommit x)) e = commit-fits x 0 0 false (low 4 x (other-commit-shape gs s x e).status) (lit< tt) (omega arith)
  fits_by (Some (body.Confirm n)) e = confirm-fits 2 0 n (lit< tt) (lit< tt) (low 6 n (confirm-shape gs s n e).counter)
  fits_by (Some (body.OtherConfirm x)) e = confirm-fits 2 x 0 (lit< tt) (low 4 x (other-confirm-shape gs s x e).status) (lit< tt)
  fits_by None e = confirm-fits 0 0 0 (lit< tt) (lit< tt) (lit< tt)

  view-fits : Fits (view gs s) s
  unfolding view
  view-fits = record { numbers = fits_by (read_body gs s) refl; handed = handed-short gs s }

-- ---- once read, written again

-- what the reader wrote where it returned 0
record Read (t s x : List ℕ) : Type 0 where
  sound : sound t ≡ true
  parts : x ≡ parts_octets (view (groups_in t) s) s

read-zero : (t s x given : List ℕ) (r : ℕ) → r ≡ 0 → Reads r x given t s → Read t s x
unfolding read_number read_parts
read-zero t s x given r z e = go (sound t) refl ((view (groups_in t) s).sequence is 0) e.returns e.leaves
  where
    go : (b : Bool) → sound t ≡ b → (m : Bool) → r ≡ (if b then (if m then 7 else 0) else 2)
        → x ≡ (if b then (if m then given else parts_octets (view (groups_in t) s) s) else given) → Read t s x
    go true k false n l = record { sound = k; parts = l }
    go true k true n l = absurd (omega arith)
    go false k m n l = absurd (omega arith)

-- what follows a status 0 Confirm
behind-by : (gs s : List ℕ) (n : ℕ) → read_body gs s ≡ Some (body.Confirm n) → Fits (view gs s) s → PointsBehind s (parts_octets (view gs s) s)
unfolding view handed_at handed_length elements_of part
behind-by gs s n e f =
    let v = confirm_view 2 0 n in
    let k : view gs s ≡ v = rw e in
    let i : num (part (parts_octets (view gs s) s) 8 4) ≡ 40 = at-handed (view gs s) s f ∙ ap handed_at k in
    let j : num (part (parts_octets (view gs s) s) 12 4) ≡ length (drop 40 s) = at_length (view gs s) s f ∙ ap (λ (u : View). handed_length u s) k in
    record { at = i; long = j; back = rw (i, j) (take_all (length (drop 40 s)) (drop 40 s) (omega arith)) }

pub read-points : (t s x given : List ℕ) → Bytes s → Reads 0 x given t s → Points t s x
read-points t s x given b e =
    let w = read-zero t s x given 0 refl e in
    let f = view-fits (groups_in t) s b in
    record {
      sound = w.sound;
      parts = ap (λ (y : List ℕ). pointed_out y s) w.parts ∙ points (groups_in t) s f;
      behind = λ n r. subst (PointsBehind s) (sym w.parts) (behind-by (groups_in t) s n r f);
    }

-- what the writer makes of the parts that the reader pointed out
module _ (t s x given : List ℕ) (b : Bytes s) (e : Reads 0 x given t s) where
  written_as : (u : List ℕ) → ((out : List ℕ) → Copied u out (writes_from t (parts_in (groups_in t) s) out)) → WritesAs t s x u
  written_as u c =
      record {
        made = λ out left r written old h W.
            let l = ap (λ (p : Parts). writes_from t p out) (read-points t s x given b e).parts ∙ (c out).whole h in
            record {
              returns = W.returns ∙ ap (λ (k : LeftOut). wrote_number k.answer) l;
              leaves = W.leaves ∙ ap (λ (k : LeftOut). k.out) l;
              counts = W.counts ∙ ap (λ (k : LeftOut). written_left k.answer old) l;
            };
      }

  pub write_again : Again t s → WritesAs t s x s
  write_again a = written_as s a.again

  pub confirm-written : ConfirmAgain t s → (n : ℕ) → read_body (groups_in t) s ≡ Some (body.Confirm n) → ConfirmWritten t s x
  confirm-written a n r =
      let h = (confirm-shape (groups_in t) s n r).total in
      let l : length (take 40 s) ≡ 40 = length-take-le 40 s h in
      record {
        first = written_as (take 40 s) (a.first n r);
        same = λ k. write_again (a.confirm n r k);
        only = λ w. sym (one-length (written_as (take 40 s) (a.first n r)) w (omega arith)) ∙ l;
      }
    where
      -- what is written has one length
      one-length : WritesAs t s x (take 40 s) → WritesAs t s x s → length (take 40 s) ≤ length s → length (take 40 s) ≡ length s
      one-length u w h =
          let did : Writes _ _ _ 0 (writes_from t (pointed_out x s) s) = record { returns = refl; leaves = refl; counts = refl } in
          sym (u.made s _ _ _ 0 h did).counts ∙ (w.made s _ _ _ 0 (omega arith) did).counts

-- ---- what is written reads back

-- no cause has the number 0
number-some : (c : Refusal) → 1 ≤ number c
number-some why.Settings = omega arith
number-some why.Unsound = omega arith
number-some why.Address = omega arith
number-some why.Fresh = omega arith
number-some why.Token = omega arith
number-some why.Verdict = omega arith
number-some why.Body = omega arith
number-some why.Running = omega arith
number-some why.Full = omega arith
number-some why.NoRecord = omega arith
number-some why.Short = omega arith
number-some why.Slots = omega arith
number-some why.Group = omega arith
number-some why.Target = omega arith

-- a writer that returned 0 wrote
zero-wrote : (w : Result ℕ Refusal) (m given : ℕ) → 0 ≡ wrote_number w → m ≡ written_left w given → w ≡ Ok m
zero-wrote (Ok n) m given e c = ap Ok (sym c)
zero-wrote (Err c) m given e k = absurd (omega (arith, number-some c))

-- a body that has these parts is read as them
module _ (p : Parts) (b : Numbers p) (u s : List ℕ) (k : sound u ≡ true) (e : parts_in (groups_in u) s ≡ p) where
  abbrev seen : View
  seen = view (groups_in u) s

  some : p.sequence ≡ 0 → ⊥
  some z = ⊎_elim (λ h. omega arith) (λ h. omega arith) b.sequence

  parts-fit : Fits seen s
  unfolding parts_in
  parts-fit =
      record {
        numbers = record {
          sequence = rw (ap (λ (q : Parts). q.sequence) e) (⊎_elim (λ h. omega arith) (λ h. omega arith) b.sequence);
          status = rw (ap (λ (q : Parts). q.status) e) b.status;
          group = rw (ap (λ (q : Parts). q.group) e) b.group;
          counter = rw (ap (λ (q : Parts). q.counter) e) b.counter;
          toklen = view-short (groups_in u) s;
        };
        handed = handed-short (groups_in u) s;
      }

  reads-zero : (x given : List ℕ) (r : ℕ) → Reads r x given u s → r ≡ 0
  unfolding parts_in read_number
  reads-zero x given r R = R.returns ∙ rw (k, ne_eqb seen.sequence 0 (λ z. some (sym (ap (λ (q : Parts). q.sequence) e) ∙ z)))

  reads-parts : (x given : List ℕ) (r : ℕ) → Reads r x given u s → (r ≡ 0) × (pointed_out x s ≡ p)
  reads-parts x given r R =
      let z = reads-zero x given r R in
      let w = read-zero u s x given r z R in
      (z, ap (λ (y : List ℕ). pointed_out y s) w.parts ∙ points (groups_in u) s parts-fit ∙ e)

back-reads : (t : List ℕ) (p : Parts) (out left : List ℕ) (m : ℕ) → Back t p out left m → ReadsBack p left m
back-reads t p out left m B = record { back = λ u x given r k S R. reads-parts p B.numbers u (take m left) k (B.parts (groups_in u) S) x given r R }

-- from parts
pub parts-read-back : (t : List ℕ) (p : Parts) (out left : List ℕ) (m old : ℕ) → p.group < 65536 → p.counter < 65536
    → Writes 0 left m old (writes_from t p out) → ReadsBack p left m
parts-read-back t p out left m old g n W =
    back-reads t p out left m (rw W.leaves (parts-back t p out m g n (zero-wrote (writes_from t p out).answer m old W.returns W.counts)))

-- from a record
pub record-read-back : (t a : List ℕ) (q : ℕ) (value out left : List ℕ) (m old : ℕ) → Bytes t
    → Writes 0 left m old (writes_record t a q value out) → ReadsBack (record_parts (look (decode_table t) a) q value) left m
record-read-back t a q value out left m old b W =
    back-reads t _ out left m (rw W.leaves (record-back t a q value out m b (zero-wrote (writes_record t a q value out).answer m old W.returns W.counts)))
