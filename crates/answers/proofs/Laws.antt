-- Laws of what all calls share: where a record goes, the end of a call, a call that goes on.
use mathlib.Core.Path.{◌≡◌, refl, sym, ap, ◌∙◌, subst}
use mathlib.Core.Bool.{Bool, true, false}
use mathlib.Core.List.{List}
use Prim.Native.Nat.{ℕ, ◌<◌}
use native.Mathlib.Omega.{arith}
use lib.ListN.{length}
use borrow.Author.Tests.{eqb-true}
use Rattle.octets.specs.Octets.{Bytes}
use Rattle.std.specs.Prelude.{if◌then◌else◌, Option, Some, None, Result, Ok, Err, MatchOption}
use Rattle.record.specs.Layout.{no_peer}
use Rattle.record.proofs.Laws.{shape-peer}
use Rattle.soundness.proofs.Laws.{peer-unused}
use Rattle.rules.specs.Book.{Step}
use Rattle.rules.specs.declared.Said.{Said}
use Rattle.rules.specs.Said.{saying}
use Rattle.table.specs.Table.{Table, entry, sound, encode_table, decode_table, with_peer, recounted, slot, slots, free_slot, Ready}
use Rattle.table.proofs.Laws.{entry-found, found_below, free-below-law, sound-whole, sound-peer, peers-held, ready}
use Rattle.table.proofs.Fit.{fit-decoded, fit-slot}
use Rattle.table.proofs.Kept.{recounted-again}
use Rattle.answers.specs.Answers.{Report, Leaves, ends, turned, refuse, refused, said, answered, seating, finish_at, finishes, Seated}
use Rattle.causes.specs.declared.Refusal.{Refusal}
use Rattle.causes.specs.declared.Refusal.TheVariants as why

-- ---- where a record is worked on

-- the slot of the address, or a new record in the free slot nearest the end
pub data Sits (T : Table) (k : ℕ) : Option ℕ → Type 0 where
  there : Sits T k (Some k)
  free : free_slot T ≡ Some k → Sits T k None

pub sits : (T : Table) (f : Option ℕ) (k : ℕ) → seating T f ≡ Some k → Sits T k f
unfolding seating
sits T (Some j) k e = let z : j ≡ k = cc in subst (λ (x : ℕ). Sits T k (Some x)) (sym z) there
sits T None k e = free e

pub sits-below : (t : List ℕ) (f : Option ℕ) (k : ℕ) → Seated t f → Sits (decode_table t) k f → k < slots (decode_table t)
sits-below t f k S there = S.below k refl
sits-below t f k S (free e) = (free-below-law (decode_table t) k e).0

-- what `seat_of` shows
pub seating-or : (T : Table) (f r : Option ℕ) (P : Type 0) → (P → r ≡ free_slot T) → MatchOption f P (λ k. r ≡ Some k) → r ≡ seating T f
unfolding seating
seating-or T (Some k) r P h e = e
seating-or T None r P h e = h e

pub seated-ready : (t : List ℕ) (f : Option ℕ) (k : ℕ) → Seated t f → seating (decode_table t) f ≡ Some k → Ready t k
seated-ready t f k S e = ready t S.whole k (sits-below t f k S (sits (decode_table t) f k e))

-- a free slot of a sound table has the empty record
pub free-record : (t : List ℕ) (k : ℕ) → Bytes t → sound t ≡ true → free_slot (decode_table t) ≡ Some k → slot (decode_table t) k ≡ no_peer
free-record t k b s e =
    let w = free-below-law (decode_table t) k e in
    let l : k < length (decode_table t).peers = omega (arith, peers-held t (slots (decode_table t)) (sound-whole t s), w.0) in
    peer-unused _ _ _ _ (shape-peer (fit-slot (decode_table t) k (fit-decoded t _ b (sound-whole t s)) l)) (sound-peer t s k w.0) (eqb-true _ _ w.1)

-- ---- the end of every call

-- NOTHING CHANGED, nothing changes: the end leaves a sound table as it was
pub unchanged-ends : (r : Report) (t : List ℕ) → Bytes t → sound t ≡ true → (ends r (decode_table t)).table ≡ t
unfolding ends
unchanged-ends r t b s = recounted-again t b s

answered-said : (s : Step) (x : Said) (a : List ℕ) (r : Report) → x ≡ saying s → r ≡ answered x a → r ≡ said s a
unfolding said
answered-said s x a r e q = q ∙ ap (λ (y : Said). answered y a) e

module _ (t a : List ℕ) (f : Option ℕ) (s : Step) (r : Report) where
  finished-in : (g : Option ℕ) (v : List ℕ) → s.refused ≡ false → seating (decode_table t) f ≡ g → Leaves r v (finish_at g t s a) → Leaves r v (finishes t f s a)
  unfolding finishes
  finished-in g v n q l =
      subst (λ (b : Bool). Leaves r v (if b then refuse t why.Full else finish_at (seating (decode_table t) f) t s a)) (sym n)
      (subst (λ (x : Option ℕ). Leaves r v (finish_at x t s a)) (sym q) l)

  -- "no slot, refuse"
  pub full-refused : s.refused ≡ true → r ≡ refused why.Full → Leaves r t (finishes t f s a)
  unfolding finishes
  full-refused n z = rw n (record { answer = z; table = refl })

  -- no slot is free, and none is needed
  pub full-said : (x : Said) → Bytes t → sound t ≡ true → s.refused ≡ false → seating (decode_table t) f ≡ None → x ≡ saying s → r ≡ answered x a
      → Leaves r t (finishes t f s a)
  unfolding finish_at ends
  full-said x b w n q e z = finished-in None t n q (record { answer = answered-said s x a r e z; table = sym (recounted-again t b w) })

  -- THE RECORD CHANGED WHERE IT LIES, and the counts made true, are the step finished
  pub finish-law : (u v : List ℕ) (k : ℕ) (x : Said) → s.refused ≡ false → seating (decode_table t) f ≡ Some k → decode_table u ≡ with_peer (decode_table t) k s.peer → x ≡ saying s
      → r ≡ answered x a → v ≡ encode_table (recounted (decode_table u)) → Leaves r v (finishes t f s a)
  unfolding finish_at ends
  finish-law u v k x n q d ex er ev =
      finished-in (Some k) v n q (record { answer = answered-said s x a r ex er; table = ev ∙ ap (λ (X : Table). encode_table (recounted X)) d })

-- ---- every call: a refusal, or a step finished

module _ (w : Result (Option ℕ) Refusal) (g : Option ℕ → Step) (t a : List ℕ) (e : Result (Option ℕ) Refusal) (p : e ≡ w) (r : Report) where
  pub turned-refused : (c : Refusal) → e ≡ Err c → r ≡ refused c → Leaves r t (turned w g t a)
  unfolding turned
  turned-refused c q z = subst (λ (x : Result (Option ℕ) Refusal). Leaves r t (turned x g t a)) (sym q ∙ p) (record { answer = z; table = refl })

  pub turned-go : (f : Option ℕ) (s : Step) (u : List ℕ) → e ≡ Ok f → s ≡ g f → Leaves r u (finishes t f s a) → Leaves r u (turned w g t a)
  unfolding turned
  turned-go f s u q es l = subst (λ (x : Result (Option ℕ) Refusal). Leaves r u (turned x g t a)) (sym q ∙ p) (subst (λ (x : Step). Leaves r u (finishes t f x a)) es l)

-- ---- who may go on

pub clashed : {c : Refusal} {f : Option ℕ} {X : Type 0} → Err c ≡ Ok f → X
clashed e = let z : ◌≡◌ {A = ℕ} 0 1 = cc in absurd (omega arith)

seated-at : (t a : List ℕ) (k : ℕ) → entry t a ≡ Ok (Some k) → Seated t (Some k)
seated-at t a k e =
    let w = entry-found t a (Some k) e in
    record { whole = w.0; below = λ j q. let z : k ≡ j = cc in subst (λ (x : ℕ). x < slots (decode_table t)) z (found_below (decode_table t) a k w.1.1).0 }

seated-absent : (t a : List ℕ) → entry t a ≡ Ok None → Seated t None
seated-absent t a e = record { whole = (entry-found t a None e).0; below = λ j q. let z : ◌≡◌ {A = ℕ} 0 1 = cc in absurd (omega arith) }

-- what a call that goes on knows
pub data Entered (t a : List ℕ) : Option ℕ → Type 0 where
  old : {k : ℕ} → entry t a ≡ Ok (Some k) → Entered t a (Some k)
  new : entry t a ≡ Ok None → Entered t a None

pub came : (t a : List ℕ) (f : Option ℕ) → entry t a ≡ Ok f → Entered t a f
came t a (Some k) e = old e
came t a None e = new e

pub entered-seated : (t a : List ℕ) (f : Option ℕ) → Entered t a f → Seated t f
entered-seated t a f (old {k} e) = seated-at t a k e
entered-seated t a f (new e) = seated-absent t a e
