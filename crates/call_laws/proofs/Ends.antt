-- How a call begins and ends: what its address comes to, and the answer by whether its step is refused.
use mathlib.Core.Path.{◌≡◌, refl, sym, ap, ◌∙◌}
use mathlib.Core.Logic.{◌⊎◌, inl, inr}
use mathlib.Core.Bool.{Bool, true, false, not}
use mathlib.Core.List.{List}
use Prim.Native.Nat.{ℕ, ◌^◌, ◌<◌}
use native.Mathlib.Omega.{arith}
use lib.ListN.{length}
use Rattle.std.specs.Prelude.{if◌then◌else◌, Option, Some, None, Result, Ok, Err}
use Rattle.octets.specs.Octets.{Bytes}
use Rattle.record.specs.declared.Settings.{Settings}
use Rattle.soundness.specs.Soundness.{usable}
use Rattle.record.specs.Layout.{form_of}
use Rattle.table.specs.Table.{Table, decode_table, encode_table, slot, finds, look_by, look, sound, entry}
use Rattle.table.proofs.Laws.{entry-found}
use Rattle.initial.specs.Initial.{slots_for, initial_ok, initial_table, initial}
use Rattle.initial.proofs.Initial.{initial-ok-form, initial-served, initial-recounted}
use Rattle.rules.specs.Book.{Step}
use Rattle.rule_laws.proofs.Slots.{clock-seated}
use Rattle.causes.specs.declared.Refusal.{Refusal}
use Rattle.causes.specs.declared.Refusal.TheVariants as why
use Rattle.answers.specs.Outcome.{Outcome}
use Rattle.answers.specs.Outcome as outcome
use Rattle.answers.specs.Answers.{Report, Left, ends, seating, finish_at, finishes, turned, refuse, refused, said, quiet}
use Rattle.answers.proofs.Laws.{Entered, old, new}
use Rattle.answers.proofs.Ending.{Finished, finish-ends}
use Rattle.calls.specs.Calls.{initializes, due_slot, clock_step, expires_by, expires}
use Rattle.call_laws.proofs.Good.{expire_good, expire_address}

-- ---- what an address comes to

pub data Came (t a : List ℕ) : Result (Option ℕ) Refusal → Type 0 where
  unsound : sound t ≡ false → Came t a (Err why.Unsound)
  unusable : sound t ≡ true → usable (decode_table t).header.own a ≡ false → Came t a (Err why.Address)
  lacks : sound t ≡ true → usable (decode_table t).header.own a ≡ true → finds (decode_table t) a ≡ None → Came t a (Ok None)
  has : {k : ℕ} → sound t ≡ true → usable (decode_table t).header.own a ≡ true → finds (decode_table t) a ≡ Some k → Came t a (Ok (Some k))

pub came : (t a : List ℕ) → Came t a (entry t a)
unfolding entry
came t a = go (sound t) (usable (decode_table t).header.own a) (finds (decode_table t) a) refl refl refl
  where
    go : (s u : Bool) (f : Option ℕ) → sound t ≡ s → usable (decode_table t).header.own a ≡ u → finds (decode_table t) a ≡ f
        → Came t a (if not s then Err why.Unsound else if not u then Err why.Address else Ok f)
    go false u f p q r = unsound p
    go true false f p q r = unusable p q
    go true true (Some k) p q r = has p q r
    go true true None p q r = lacks p q r

pub look-found : (T : Table) (a : List ℕ) (f : Option ℕ) → finds T a ≡ f → look_by T f ≡ look T a
unfolding look
look-found T a f e = ap (look_by T) (sym e)

-- a call that goes on has found the address's record, or that it has none
pub entered-finds : (t a : List ℕ) (f : Option ℕ) → Entered t a f → finds (decode_table t) a ≡ f
entered-finds t a f (old {k} e) = (entry-found t a (Some k) e).1.1
entered-finds t a f (new e) = (entry-found t a None e).1.1

-- ---- the answer, by whether the step is refused

pub finish-answer : (t : List ℕ) (f : Option ℕ) (s : Step) (a : List ℕ) → (finishes t f s a).answer ≡ (if s.refused then refused why.Full else said s a)
unfolding finishes finish_at ends
finish-answer t f s a = go s.refused (seating (decode_table t) f)
  where
    go : (b : Bool) (x : Option ℕ) → (if b then refuse t why.Full else finish_at x t s a).answer ≡ (if b then refused why.Full else said s a)
    go true x = refl
    go false (Some k) = refl
    go false None = refl

pub finish-outcome : (t : List ℕ) (f : Option ℕ) (s : Step) (a : List ℕ) → (finishes t f s a).answer.outcome ≡ (if s.refused then outcome.Refused why.Full else outcome.Done)
unfolding refused said
finish-outcome t f s a = ap (λ (r : Report). r.outcome) (finish-answer t f s a) ∙ go s.refused
  where
    go : (b : Bool) → (if b then refused why.Full else said s a).outcome ≡ (if b then outcome.Refused why.Full else outcome.Done)
    go true = refl
    go false = refl

module _ (g : Option ℕ → Step) (t a : List ℕ) where
  pub refuse-outcome : (c : Refusal) → (turned (Err c) g t a).answer.outcome ≡ outcome.Refused c
  unfolding turned refused
  refuse-outcome c = refl

  pub go-outcome : (f : Option ℕ) → (turned (Ok f) g t a).answer.outcome ≡ (if (g f).refused then outcome.Refused why.Full else outcome.Done)
  unfolding turned
  go-outcome f = finish-outcome t f (g f) a

  -- a cause that is tested
  pub outcome-if : (b : Bool) (c : Refusal) (w : Result (Option ℕ) Refusal) (o : Outcome) → (turned w g t a).answer.outcome ≡ o
      → (turned (if b then Err c else w) g t a).answer.outcome ≡ (if b then outcome.Refused c else o)
  outcome-if true c w o e = refuse-outcome c
  outcome-if false c w o e = e

-- a step that is done is not a refusal
pub said-not : (s : Step) (a : List ℕ) (c : Refusal) → said s a ≡ refused c → ⊥
unfolding said refused
said-not s a c e = let q : outcome.Done ≡ outcome.Refused c = ap (λ (r : Report). r.outcome) e in let z : ◌≡◌ {A = ℕ} 0 1 = cc in omega arith

-- ---- set up leaves the fresh table, whose counts are true already, or the buffer as it was

-- in whichever form
pub set-up-leaves : (size : ℕ) (t own : List ℕ) (s : Settings) → (initializes (form_of size) t own s).table ≡ initial (form_of size) s own t
unfolding initializes initial ends
set-up-leaves size t own s = go (initial_ok (form_of size) s own (length t)) refl
  where
    fresh : Table
    fresh = initial_table (form_of size) s own (slots_for (form_of size) (length t))

    go : (b : Bool) → initial_ok (form_of size) s own (length t) ≡ b
        → (if b then ends (quiet own) fresh else refuse t why.Settings).table ≡ (if b then encode_table fresh else t)
    go true e = ap encode_table (initial-recounted (form_of size) (initial-served size s own (length t) e) s own (length t) (initial-ok-form (form_of size) s own (length t) e))
    go false e = refl

-- ---- the clock's call, where a record is due

abbrev pub due_left : List ℕ → ℕ → ℕ → Left
due_left t time k = finishes t (Some k) (clock_step (decode_table t) k time) (slot (decode_table t) k).address

-- its step is never refused
pub due-answer : (t : List ℕ) (time k : ℕ) → (due_left t time k).answer ≡ said (clock_step (decode_table t) k time) (slot (decode_table t) k).address
unfolding clock_step
due-answer t time k =
    finish-answer t (Some k) (clock_step (decode_table t) k time) (slot (decode_table t) k).address
    ∙ ap (λ (b : Bool). if b then refused why.Full else said (clock_step (decode_table t) k time) (slot (decode_table t) k).address) (clock-seated _ _ (slot (decode_table t) k))

module _ (t : List ℕ) (time k : ℕ) (s : sound t ≡ true) (e : due_slot (decode_table t) time ≡ Some k) where
  pub takes : expires t time ≡ due_left t time k
  unfolding expires expires_by
  takes = rw (s, e)

  pub clock-ends : Bytes t → time < 2 ^ 32 → Finished t (slot (decode_table t) k).address (clock_step (decode_table t) k time) (due_left t time k)
  clock-ends b ht = let six = expire_address t time k b s e in go (finish-ends t (slot (decode_table t) k).address b six.0 six.1 (Some k) _ (expire_good t time k b ht s e))
    where
      go : (due_left t time k ≡ refuse t why.Full) ⊎ Finished t (slot (decode_table t) k).address (clock_step (decode_table t) k time) (due_left t time k)
          → Finished t (slot (decode_table t) k).address (clock_step (decode_table t) k time) (due_left t time k)
      go (inl q) = absurd (said-not _ _ why.Full (sym (due-answer t time k) ∙ ap (λ (l : Left). l.answer) q))
      go (inr F) = F
