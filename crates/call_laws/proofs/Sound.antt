-- EVERY CALL on a sound table leaves a sound table with true counts; and A CALL ABOUT ONE PEER leaves every other address its record, octet by octet.
use mathlib.Core.Path.{◌≡◌, refl, sym, ap, ◌∙◌, subst}
use mathlib.Core.Logic.{◌⊎◌, inl, inr}
use mathlib.Core.Bool.{Bool, true, false}
use mathlib.Core.List.{List}
use Prim.Native.Nat.{ℕ, ◌^◌, ◌≤◌, ◌<◌}
use native.Mathlib.Omega.{arith}
use lib.Dec.{ltb}
use lib.ListN.{length}
use borrow.Author.Tests.{eqb-true, ltb-true, ltb-false}
use Rattle.std.specs.Prelude.{if◌then◌else◌, Option, Some, None, Result, Ok, Err}
use Rattle.octets.specs.Octets.{Bytes, part, same_address}
use Rattle.octets.proofs.Scan.{clash, cases}
use Rattle.record.specs.declared.Settings.{Settings}
use Rattle.record.specs.Layout.{record_size, record_at, form_of}
use Rattle.record.proofs.Laws.{shape-peer, record-below}
use Rattle.table.specs.Table.{width_of, decode_table, slot, slots, in_use, belongs, look, placed, sound}
use Rattle.table.proofs.Laws.{entry-found, found_below, sound-whole, free-below-law}
use Rattle.table.proofs.Kept.{sound-form}
use Rattle.table.proofs.Octets.{Elsewhere, before_counts, between_counts, before_record, past_record, after-header, placed-outside}
use Rattle.initial.specs.Initial.{initial_ok}
use Rattle.initial.proofs.Initial.{FitSettings, initial-served, initial-sound, initial-refused}
use Rattle.good_links.specs.GoodLinks.{filled, fills}
use Rattle.good_links.proofs.GoodLinks.{fills-leave}
use Rattle.rules.specs.Book.{Step}
use Rattle.causes.specs.declared.Refusal.{Refusal}
use Rattle.causes.specs.declared.Refusal.TheVariants as why
use Rattle.answers.specs.Answers.{Left, ends, seating, finish_at, finishes, turned, refuse, said}
use Rattle.answers.proofs.Laws.{Entered, old, new, Sits, there, free, entered-seated, sits, sits-below, unchanged-ends}
use Rattle.answers.proofs.Theorems.{Good}
use Rattle.answers.proofs.Ending.{Finished, finish-ends}
use Rattle.calls.specs.Calls.{due_slot, initializes, initiates, kills, receives, expires_by, expires}
use Rattle.call_laws.specs.Alike.{SoundTable}
use Rattle.call_laws.proofs.Ends.{set-up-leaves, takes, clock-ends}
use Rattle.call_laws.proofs.Good.{initiate_good, kill_good, receive_good, expire_good}

-- a sound table's counts are true
pub sound-table : (t : List ℕ) → sound t ≡ true → SoundTable t
sound-table t s = let f = sound-form t s in record { sound = s; counts = f.counts }

-- A FILL that is not refused leaves a sound table, whose counts are true
pub fill-sound : (t : List ℕ) → sound (filled t) ≡ true → SoundTable (fills t)
fill-sound t s = sound-table (fills t) (fills-leave t s)

-- ---- what a call leaves: a sound table, every other address's record, and every other record's octets

pub record Keeping (t a u : List ℕ) : Type 0 where
  -- the table is sound and its counts are true
  pub table : SoundTable u
  pub bytes : Bytes u
  -- every other address finds what it found
  pub elsewhere : (c : List ℕ) → same_address a c ≡ false → look (decode_table u) c ≡ look (decode_table t) c
  -- every other record has the octets that it had, in the slot that it had
  pub octets : (j : ℕ) → j < slots (decode_table t) → in_use (slot (decode_table t) j) ≡ true → belongs a (slot (decode_table t) j) ≡ false
      → part u (record_at (width_of t) j) (record_size (width_of t)) ≡ part t (record_at (width_of t) j) (record_size (width_of t))
  -- the header has the octets that it had, but for the three counts
  pub front : part u 0 2 ≡ part t 0 2
  pub middle : part u 6 6 ≡ part t 6 6
  pub back : part u 14 18 ≡ part t 14 18

keeps-all : (t a : List ℕ) → Bytes t → sound t ≡ true → Keeping t a t
keeps-all t a b s = record { table = sound-table t s; bytes = b; elsewhere = λ c n. refl; octets = λ j l u n. refl; front = refl; middle = refl; back = refl }

-- the slot that is written is not another record's
module _ (t a : List ℕ) (j : ℕ) (u : in_use (slot (decode_table t) j) ≡ true) (n : belongs a (slot (decode_table t) j) ≡ false) where
  other-slot : (f : Option ℕ) (k : ℕ) → Entered t a f → Sits (decode_table t) k f → j ≡ k → ⊥
  other-slot f k (old p) there e = clash (found_below (decode_table t) a k (entry-found t a (Some k) p).1.1).1 (subst (λ (i : ℕ). belongs a (slot (decode_table t) i) ≡ false) e n)
  other-slot f k (new p) (free q) e =
      let z : (slot (decode_table t) k).used ≡ 0 = eqb-true _ _ (free-below-law (decode_table t) k q).1 in
      let w : (slot (decode_table t) j).used ≡ 1 = eqb-true _ _ u in
      let x : (slot (decode_table t) j).used ≡ (slot (decode_table t) k).used = ap (λ (i : ℕ). (slot (decode_table t) i).used) e in
      omega arith

module _ (t a : List ℕ) (b : Bytes t) (f : Option ℕ) (s : Step) (G : Good t a f s) where
  -- what is not the record's slot nor a count stays
  finish-outside : (at m : ℕ)
      → ((k : ℕ) → k < slots (decode_table t) → Sits (decode_table t) k f → Elsewhere (record_at (width_of t) k) (record_size (width_of t)) at m)
      → part (finishes t f s a).table at m ≡ part t at m
  unfolding finishes finish_at ends placed
  finish-outside at m w = go s.refused (seating (decode_table t) f) refl
    where
      go : (b : Bool) (x : Option ℕ) → seating (decode_table t) f ≡ x → part (if b then refuse t why.Full else finish_at x t s a).table at m ≡ part t at m
      go true x v = refl
      go false (Some k) v =
          let i = sits (decode_table t) f k v in
          let S = entered-seated t a f G.came in
          let l = sits-below t f k S i in
          placed-outside t (slots (decode_table t)) k s.peer b (sound-whole t S.whole) l (shape-peer G.fits) at m (w k l i)
      go false None v = ap (λ (u : List ℕ). part u at m) (unchanged-ends (said s a) t b (entered-seated t a f G.came).whole)

  finish-octets : (j : ℕ) → j < slots (decode_table t) → in_use (slot (decode_table t) j) ≡ true → belongs a (slot (decode_table t) j) ≡ false
      → part (finishes t f s a).table (record_at (width_of t) j) (record_size (width_of t)) ≡ part t (record_at (width_of t) j) (record_size (width_of t))
  finish-octets j l u n = finish-outside (record_at (width_of t) j) (record_size (width_of t)) (λ k h i. apart k j (other-slot t a j u n f k G.came i))
    where
      apart : (k j : ℕ) → (j ≡ k → ⊥) → Elsewhere (record_at (width_of t) k) (record_size (width_of t)) (record_at (width_of t) j) (record_size (width_of t))
      apart k j d = elim (cases (ltb j k)) [
        | inl h ↦ let w : j < k = ltb-true j k h in before_record (omega (arith, after-header (width_of t) j)) (record-below (width_of t) j k w)
        | inr h ↦ let w : k ≤ j = ltb-false j k h in let v : k < j = omega (arith, w, d) in past_record (record-below (width_of t) k j v)
      ]

  finish-front : part (finishes t f s a).table 0 2 ≡ part t 0 2
  finish-front = finish-outside 0 2 (λ k h i. before_counts (omega arith))

  finish-middle : part (finishes t f s a).table 6 6 ≡ part t 6 6
  finish-middle = finish-outside 6 6 (λ k h i. between_counts (omega arith) (omega arith))

  finish-back : part (finishes t f s a).table 14 18 ≡ part t 14 18
  finish-back = finish-outside 14 18 (λ k h i. before_record (omega arith) (omega (arith, after-header (width_of t) k)))

  finish-keeps : Finished t a s (finishes t f s a) → Keeping t a (finishes t f s a).table
  finish-keeps F = record {
    table = sound-table _ F.sound;
    bytes = F.bytes;
    elsewhere = F.elsewhere;
    octets = finish-octets;
    front = finish-front;
    middle = finish-middle;
    back = finish-back;
  }

refused-keeps : (t a : List ℕ) (c : Refusal) (l : Left) → Bytes t → sound t ≡ true → l ≡ refuse t c → Keeping t a l.table
refused-keeps t a c l b s e = subst (λ (x : Left). Keeping t a x.table) (sym e) (keeps-all t a b s)

pub turn-keeps : (w : Result (Option ℕ) Refusal) (g : Option ℕ → Step) (t a : List ℕ) → Bytes t → length a ≡ 6 → Bytes a → sound t ≡ true → ((f : Option ℕ) → w ≡ Ok f → Good t a f (g f)) → Keeping t a (turned w g t a).table
unfolding turned
turn-keeps (Err c) g t a b la ba s G = keeps-all t a b s
turn-keeps (Ok f) g t a b la ba s G = go (finish-ends t a b la ba f (g f) (G f refl))
  where
    go : (finishes t f (g f) a ≡ refuse t why.Full) ⊎ Finished t a (g f) (finishes t f (g f) a) → Keeping t a (finishes t f (g f) a).table
    go (inl e) = refused-keeps t a why.Full _ b s e
    go (inr F) = finish-keeps t a b f (g f) (G f refl) F

-- ---- each call

pub initiate-keeps : (t a : List ℕ) (time : ℕ) (fresh : List ℕ) → Bytes t → length a ≡ 6 → Bytes a → time < 2 ^ 32 → Bytes fresh → sound t ≡ true
    → Keeping t a (initiates t a time fresh).table
unfolding initiates
initiate-keeps t a time fresh b la ba ht bf s = turn-keeps _ _ t a b la ba s (λ f e. initiate_good t a time fresh f b la ba ht bf e)

pub kill-keeps : (t a : List ℕ) → Bytes t → length a ≡ 6 → Bytes a → sound t ≡ true → Keeping t a (kills t a).table
unfolding kills
kill-keeps t a b la ba s = turn-keeps _ _ t a b la ba s (λ f e. kill_good t a f b la ba e)

pub receive-keeps : (t a : List ℕ) (time : ℕ) (frame fresh expected : List ℕ) (verdict : ℕ) → Bytes t → length a ≡ 6 → Bytes a → time < 2 ^ 32 → Bytes frame → Bytes fresh → Bytes expected
    → verdict < 2 ^ 8 → sound t ≡ true → Keeping t a (receives t a time frame fresh expected verdict).table
unfolding receives
receive-keeps t a time frame fresh expected verdict b la ba ht br bf be hv s =
    turn-keeps _ _ t a b la ba s (λ f e. receive_good t a time frame fresh expected verdict f b la ba ht br bf be hv e)

-- the clock call, about the record that it takes; where none is due every octet stays
pub expire-keeps-due : (t : List ℕ) (time k : ℕ) → Bytes t → time < 2 ^ 32 → sound t ≡ true → due_slot (decode_table t) time ≡ Some k
    → Keeping t (slot (decode_table t) k).address (expires t time).table
expire-keeps-due t time k b ht s e =
    rw (takes t time k s e) (finish-keeps t (slot (decode_table t) k).address b (Some k) _ (expire_good t time k b ht s e) (clock-ends t time k s e b ht))

pub expire-keeps-none : (t : List ℕ) (time : ℕ) → Bytes t → due_slot (decode_table t) time ≡ None → (expires t time).table ≡ t
unfolding expires expires_by
expire-keeps-none t time b e = rw e (go (sound t) refl)
  where
    go : (x : Bool) → sound t ≡ x → (if x then expires_by None t time else refuse t why.Unsound).table ≡ t
    go true s = unchanged-ends _ t b s
    go false s = refl

-- EVERY CALL on a sound table leaves a sound table with true counts
pub initiate-sound : (t a : List ℕ) (time : ℕ) (fresh : List ℕ) → Bytes t → length a ≡ 6 → Bytes a → time < 2 ^ 32 → Bytes fresh → sound t ≡ true → SoundTable (initiates t a time fresh).table
initiate-sound t a time fresh b la ba ht bf s = (initiate-keeps t a time fresh b la ba ht bf s).table

pub kill-sound : (t a : List ℕ) → Bytes t → length a ≡ 6 → Bytes a → sound t ≡ true → SoundTable (kills t a).table
kill-sound t a b la ba s = (kill-keeps t a b la ba s).table

pub receive-sound : (t a : List ℕ) (time : ℕ) (frame fresh expected : List ℕ) (verdict : ℕ) → Bytes t → length a ≡ 6 → Bytes a → time < 2 ^ 32 → Bytes frame → Bytes fresh → Bytes expected
    → verdict < 2 ^ 8 → sound t ≡ true → SoundTable (receives t a time frame fresh expected verdict).table
receive-sound t a time frame fresh expected verdict b la ba ht br bf be hv s = (receive-keeps t a time frame fresh expected verdict b la ba ht br bf be hv s).table

pub expire-sound : (t : List ℕ) (time : ℕ) → Bytes t → time < 2 ^ 32 → sound t ≡ true → SoundTable (expires t time).table
expire-sound t time b ht s = go (due_slot (decode_table t) time) refl
  where
    go : (f : Option ℕ) → due_slot (decode_table t) time ≡ f → SoundTable (expires t time).table
    go (Some k) e = (expire-keeps-due t time k b ht s e).table
    go None e = subst SoundTable (sym (expire-keeps-none t time b e)) (sound-table t s)

-- a set up that is not refused makes a sound table, whatever the buffer held; one that is refused leaves the table
pub initialize-makes : (size : ℕ) (t own : List ℕ) (s : Settings) → FitSettings s own → initial_ok (form_of size) s own (length t) ≡ true
    → SoundTable (initializes (form_of size) t own s).table
initialize-makes size t own s f e =
    subst SoundTable (sym (set-up-leaves size t own s)) (sound-table _ (initial-sound (form_of size) (initial-served size s own (length t) e) s own t f e))

pub initialize-sound : (size : ℕ) (t own : List ℕ) (s : Settings) → FitSettings s own → sound t ≡ true → SoundTable (initializes (form_of size) t own s).table
initialize-sound size t own s f w = go (initial_ok (form_of size) s own (length t)) refl
  where
    go : (x : Bool) → initial_ok (form_of size) s own (length t) ≡ x → SoundTable (initializes (form_of size) t own s).table
    go true e = initialize-makes size t own s f e
    go false e = subst SoundTable (sym (set-up-leaves size t own s ∙ initial-refused (form_of size) s own t e)) (sound-table t w)
