-- How a call about an address ends: refused, with every octet as it was, or with the step's record at its address and nothing else changed.
use Rattle.std.specs.Prelude.{Option, Some, None, Result, Ok, Err}
use mathlib.Core.Path.{◌≡◌, refl, sym, ap, ◌∙◌, subst}
use mathlib.Core.Logic.{◌⊎◌, inl, inr}
use mathlib.Core.Bool.{Bool, true, false}
use mathlib.Core.List.{List}
use Prim.Native.Nat.{ℕ, zero, suc, ◌<◌}
use native.Mathlib.Omega.{arith}
use native.Mathlib.Decide.{ℕ_discrete}
use lib.ListN.{length}
use borrow.Author.Tests.{eq-eqb}
use Rattle.octets.specs.Octets.{Bytes, same_address}
use Rattle.octets.specs.Scan.{first_below}
use Rattle.octets.proofs.Scan.{clash, first-ext}
use Rattle.record.specs.declared.Peer.{Peer}
use Rattle.record.specs.Layout.{counted, no_peer}
use Rattle.record.proofs.Laws.{shape-peer}
use Rattle.soundness.proofs.Laws.{peer-unused, peer-in-use}
use Rattle.rules.specs.Book.{Step}
use Rattle.table.specs.Table.{Table, sound, encode_table, decode_table, placed, recounted, with_peer, slot, slots, in_use, belongs, look, look_by, finds}
use Rattle.table.proofs.Laws.{entry-found, sound-whole, peers-held}
use Rattle.table.proofs.Fit.{bytes-placed}
use Rattle.table.proofs.Kept.{good-storable, placed_same, placed-other}
use Rattle.answers.specs.Answers.{ends, seating, finish_at, finishes, Left, turned, refuse, said}
use Rattle.causes.specs.declared.Refusal.{Refusal}
use Rattle.causes.specs.declared.Refusal.TheVariants as why
use Rattle.answers.proofs.Laws.{Entered, old, new, entered-seated, sits, sits-below, unchanged-ends}
use Rattle.answers.proofs.Theorems.{Good, others-free, leaves, sound-here, look-here, look-elsewhere}

-- a step was made: its answer, and the table that it leaves
pub record Finished (t a : List ℕ) (s : Step) (l : Left) : Type 0 where
  pub answer : l.answer ≡ said s a
  pub sound : sound l.table ≡ true
  pub bytes : Bytes l.table
  -- the header is as it was but for its counts
  pub header : (decode_table l.table).header ≡ counted (decode_table t).header (decode_table l.table).header.counts
  -- the address has the step's record, and every other address what it had
  pub here : look (decode_table l.table) a ≡ s.peer
  pub elsewhere : (c : List ℕ) → same_address a c ≡ false → look (decode_table l.table) c ≡ look (decode_table t) c

-- nobody has the address
never : (n : ℕ) → first_below (λ k. false) n ≡ None
unfolding first_below
never zero = refl
never (suc n) = rw (never n) refl

unheld : (T : Table) (a : List ℕ) → ((i : ℕ) → i < slots T → belongs a (slot T i) ≡ false) → look T a ≡ no_peer
unfolding look look_by finds
unheld T a h = ap (look_by T) (first-ext _ (λ k. false) (slots T) h ∙ never (slots T))

free-holds : (a : List ℕ) → belongs a no_peer ≡ false
unfolding belongs no_peer
free-holds a = refl

header-placed : (T : Table) (k : ℕ) (p : Peer) → (placed T k p).header ≡ counted T.header (placed T k p).header.counts
unfolding placed recounted with_peer
header-placed T k p = refl

-- nowhere to work on a record: it is a new one
nowhere-new : (T : Table) (f : Option ℕ) → seating T f ≡ None → f ≡ None
unfolding seating
nowhere-new T (Some k) e = let z : ◌≡◌ {A = ℕ} 0 1 = cc in absurd (omega arith)
nowhere-new T None e = refl

absent-look : (t a : List ℕ) (f : Option ℕ) → Entered t a f → f ≡ None → look (decode_table t) a ≡ no_peer
unfolding look look_by
absent-look t a f (old {k} p) e = let z : ◌≡◌ {A = ℕ} 0 1 = cc in absurd (omega arith)
absent-look t a f (new p) e = ap (look_by (decode_table t)) (entry-found t a None p).1.1

module _ (t a : List ℕ) (b : Bytes t) (la : length a ≡ 6) (ba : Bytes a) (f : Option ℕ) (s : Step) (G : Good t a f s) where
  -- a record that is not in use is the free one
  freed : in_use s.peer ≡ false → s.peer ≡ no_peer
  freed e = elim (ℕ_discrete s.peer.used 0) [
    | yes z ↦ peer-unused _ _ _ s.peer (shape-peer G.fits) G.form z
    | no d ↦ absurd (clash (eq-eqb _ _ (peer-in-use _ _ _ s.peer d G.form).used) e)
  ]

  owed : (x : Option ℕ) → ◌≡◌ {A = Result (Option ℕ) Refusal} (Ok f) (Ok x) → Good t a x s
  owed x e = let z : f ≡ x = cc in subst (λ (y : Option ℕ). Good t a y s) z G

  module _ (k : ℕ) (n : s.refused ≡ false) (v : seating (decode_table t) f ≡ Some k) where
    same_end : turned (Ok f) (λ x. s) t a ≡ finishes t f s a
    unfolding turned
    same_end = refl

    whole : sound t ≡ true
    whole = (entered-seated t a f G.came).whole

    below : k < slots (decode_table t)
    below = sits-below t f k (entered-seated t a f G.came) (sits (decode_table t) f k v)

    held : k < length (decode_table t).peers
    held = omega (arith, peers-held t (slots (decode_table t)) (sound-whole t whole), below)

    read_again : decode_table (finishes t f s a).table ≡ placed (decode_table t) k s.peer
    read_again = subst (λ (l : Left). decode_table l.table ≡ placed (decode_table t) k s.peer) same_end (leaves (Ok f) (λ x. s) t a b la ba owed f k refl n v)

    gone : in_use s.peer ≡ false → look (decode_table (finishes t f s a).table) a ≡ s.peer
    unfolding placed recounted with_peer
    gone e =
        let z : s.peer ≡ no_peer = freed e in
        ap (λ (T : Table). look T a) read_again ∙ unheld (placed (decode_table t) k s.peer) a (λ i l. elim (ℕ_discrete i k) [
          | yes q ↦ ap (λ (j : ℕ). belongs a (slot (placed (decode_table t) k s.peer) j)) q ∙ ap (belongs a) (placed_same (decode_table t) k s.peer held ∙ z) ∙ free-holds a
          | no d ↦ ap (belongs a) (placed-other (decode_table t) k s.peer held i d)
              ∙ others-free t a f k b la ba G.came (sits (decode_table t) f k v) i l d
        ]) ∙ sym z

    there-now : look (decode_table (finishes t f s a).table) a ≡ s.peer
    there-now = go (in_use s.peer) refl
      where
        go : (x : Bool) → in_use s.peer ≡ x → look (decode_table (finishes t f s a).table) a ≡ s.peer
        go true e = subst (λ (l : Left). look (decode_table l.table) a ≡ s.peer) same_end (look-here (Ok f) (λ x. s) t a b la ba owed f k refl n v e)
        go false e = gone e

    table_is : (finishes t f s a).table ≡ encode_table (placed (decode_table t) k s.peer)
    unfolding finishes finish_at ends placed
    table_is = rw (n, v) refl

    placed-finished : Finished t a s (finishes t f s a)
    unfolding finishes finish_at ends
    placed-finished = record {
      answer = rw (n, v) refl;
      sound = subst (λ (l : Left). sound l.table ≡ true) same_end (sound-here (Ok f) (λ x. s) t a b la ba owed f k refl n v);
      bytes = subst Bytes (sym table_is) (bytes-placed t (slots (decode_table t)) k s.peer b (sound-whole t whole) G.fits (good-storable t s.peer whole G.fits G.form));
      header = subst (λ (T : Table). T.header ≡ counted (decode_table t).header T.header.counts) (sym read_again) (header-placed (decode_table t) k s.peer);
      here = there-now;
      elsewhere = λ c d. subst (λ (l : Left). look (decode_table l.table) c ≡ look (decode_table t) c) same_end (look-elsewhere (Ok f) (λ x. s) t a b la ba owed f k refl n v c d);
    }

  -- no slot is free, and none is needed
  module _ (n : s.refused ≡ false) (v : seating (decode_table t) f ≡ None) where
    stays : (finishes t f s a).table ≡ t
    unfolding finishes finish_at
    stays = rw (n, v) (unchanged-ends _ t b (entered-seated t a f G.came).whole)

    nowhere-finished : Finished t a s (finishes t f s a)
    unfolding finishes finish_at ends
    nowhere-finished = record {
      answer = rw (n, v) refl;
      sound = rw stays (entered-seated t a f G.came).whole;
      bytes = subst Bytes (sym stays) b;
      header = rw stays refl;
      here = ap (λ (u : List ℕ). look (decode_table u) a) stays ∙ absent-look t a f G.came (nowhere-new (decode_table t) f v) ∙ sym (G.stays v n);
      elsewhere = λ c d. ap (λ (u : List ℕ). look (decode_table u) c) stays;
    }

  -- the end of a step: no free slot, or the step is done
  pub finish-ends : (finishes t f s a ≡ refuse t why.Full) ⊎ Finished t a s (finishes t f s a)
  unfolding finishes
  finish-ends = go s.refused refl (seating (decode_table t) f) refl
    where
      go : (r : Bool) → s.refused ≡ r → (x : Option ℕ) → seating (decode_table t) f ≡ x → (finishes t f s a ≡ refuse t why.Full) ⊎ Finished t a s (finishes t f s a)
      go true n x v = inl (rw n refl)
      go false n (Some k) v = inr (placed-finished k n v)
      go false n None v = inr (nowhere-finished n v)

-- a call about an address: refused, or its step is done
pub data Turned (w : Result (Option ℕ) Refusal) (g : Option ℕ → Step) (t a : List ℕ) : Type 0 where
  denied : (c : Refusal) → turned w g t a ≡ refuse t c → Turned w g t a
  done : (f : Option ℕ) → w ≡ Ok f → Finished t a (g f) (turned w g t a) → Turned w g t a

pub turn-ends : (w : Result (Option ℕ) Refusal) (g : Option ℕ → Step) (t a : List ℕ) → Bytes t → length a ≡ 6 → Bytes a → ((f : Option ℕ) → w ≡ Ok f → Good t a f (g f)) → Turned w g t a
unfolding turned
turn-ends (Err c) g t a b la ba G = denied c refl
turn-ends (Ok f) g t a b la ba G = go (finish-ends t a b la ba f (g f) (G f refl))
  where
    go : (finishes t f (g f) a ≡ refuse t why.Full) ⊎ Finished t a (g f) (finishes t f (g f) a) → Turned (Ok f) g t a
    go (inl e) = denied why.Full e
    go (inr F) = done f refl F
