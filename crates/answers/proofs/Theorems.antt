-- What holds of every call about an address: a refusal leaves every octet, a sound table stays sound with true counts, every other address keeps its record.
use mathlib.Core.Path.{◌≡◌, refl, sym, ap, ◌∙◌, subst}
use mathlib.Core.Bool.{Bool, true, false, ◌&&◌}
use mathlib.Core.List.{List}
use Prim.Native.Nat.{ℕ, ◌<◌}
use native.Mathlib.Omega.{arith}
use lib.ListN.{length}
use borrow.Author.Tests.{eqb-true}
use Rattle.octets.specs.Octets.{Bytes, same_address}
use Rattle.octets.proofs.Scan.{and_left, and_right}
use Rattle.octets.proofs.Tests.{same-address, same-address-refl}
use Rattle.std.specs.Prelude.{if◌then◌else◌, Option, Some, None, Result, Ok, Err}
use Rattle.groups.specs.Groups.{width}
use Rattle.record.specs.declared.Peer.{Peer}
use Rattle.record.specs.declared.Counts.{Counts}
use Rattle.record.specs.Layout.{groups_of, no_peer}
use Rattle.record.proofs.Laws.{FitPeer}
use Rattle.soundness.specs.Soundness.{high_sync, peer_ok}
use Rattle.rules.specs.Book.{Step}
use Rattle.table.specs.Table.{Table, entry, sound, encode_table, decode_table, placed, slot, slots, in_use, belongs, look, counts_of, used_count, open_count}
use Rattle.table.proofs.Laws.{entry-found, found_below, sound-whole, peers-held, none-holds, free-below-law}
use Rattle.table.proofs.Fit.{fit-slot, fit-decoded}
use Rattle.table.proofs.Kept.{Alone, sound-form, good-storable, placed-sound, placed-decoded, placed-counts, look-other, look-same}
use Rattle.answers.specs.Answers.{Left, ends, seating, finish_at, finishes, turned, refuse, refused, said}
use Rattle.causes.specs.declared.Refusal.{Refusal}
use Rattle.causes.specs.declared.Refusal.TheVariants as why
use Rattle.answers.specs.Outcome as outcome
use Rattle.answers.proofs.Laws.{Entered, old, new, Sits, there, free, entered-seated, sits, sits-below, unchanged-ends}

-- what a call owes of its step: the record has its form, and the call's address if it is in use
pub record Good (t a : List ℕ) (f : Option ℕ) (s : Step) : Type 0 where
  pub came : Entered t a f
  pub fits : FitPeer width s.peer
  pub form : peer_ok (decode_table t).header.own (groups_of (decode_table t).header) (high_sync (decode_table t).header) s.peer ≡ true
  pub own : in_use s.peer ≡ true → s.peer.address ≡ a
  -- without a slot it is refused, or its record stays the free one
  pub stays : seating (decode_table t) f ≡ None → s.refused ≡ false → s.peer ≡ no_peer

-- the record of a slot that was found has the address
pub found-address : (t a : List ℕ) (k : ℕ) → Bytes t → length a ≡ 6 → Bytes a → entry t a ≡ Ok (Some k) → (in_use (slot (decode_table t) k) ≡ true) × ((slot (decode_table t) k).address ≡ a)
unfolding belongs
found-address t a k b la ba p =
    let w = entry-found t a (Some k) p in
    let q = found_below (decode_table t) a k w.1.1 in
    let lk : k < length (decode_table t).peers = omega (arith, peers-held t (slots (decode_table t)) (sound-whole t w.0), q.0) in
    let fp = fit-slot (decode_table t) k (fit-decoded t _ b (sound-whole t w.0)) lk in (
      and_left _ _ q.1,
      same-address _ _ (fp.address ∙ sym la) fp.bytes ba (and_right (in_use (slot (decode_table t) k)) _ q.1),
    )

-- no other slot has the address
pub others-free : (t a : List ℕ) (f : Option ℕ) (k : ℕ) → Bytes t → length a ≡ 6 → Bytes a → Entered t a f → Sits (decode_table t) k f
    → (i : ℕ) → i < slots (decode_table t) → (i ≡ k → ⊥) → belongs a (slot (decode_table t) i) ≡ false
others-free t a f k b la ba (old p) there i l d =
    let x = found-address t a k b la ba p in
    let w = entry-found t a (Some k) p in
    subst (λ (y : List ℕ). belongs y (slot (decode_table t) i) ≡ false) x.1 ((sound-form t w.0).apart i k l (found_below (decode_table t) a k w.1.1).0 d x.0)
others-free t a f k b la ba (new p) (free q) i l d = none-holds (decode_table t) a (entry-found t a None p).1.1 i l

-- and another address has not this slot
other-slot : (t a c : List ℕ) (f : Option ℕ) (k : ℕ) → Bytes t → length a ≡ 6 → Bytes a → Entered t a f → Sits (decode_table t) k f → same_address a c ≡ false → belongs c (slot (decode_table t) k) ≡ false
unfolding belongs
other-slot t a c f k b la ba (old p) there n = let x = found-address t a k b la ba p in rw (x.0, x.1) n
other-slot t a c f k b la ba (new p) (free q) n =
    let u : (slot (decode_table t) k).used ≡ 0 = eqb-true _ _ (free-below-law (decode_table t) k q).1 in
    rw u

other-record : (p : Peer) (a c : List ℕ) → (in_use p ≡ true → p.address ≡ a) → same_address a c ≡ false → belongs c p ≡ false
unfolding belongs
other-record p a c o n = go (in_use p) refl
  where
    go : (b : Bool) → in_use p ≡ b → (b && same_address p.address c) ≡ false
    go true e = rw (o e) n
    go false e = refl

self-record : (p : Peer) (a : List ℕ) → in_use p ≡ true → p.address ≡ a → belongs a p ≡ true
unfolding belongs
self-record p a u e = rw (u, e) (same-address-refl a)

module _ (w : Result (Option ℕ) Refusal) (g : Option ℕ → Step) (t a : List ℕ) (b : Bytes t) (la : length a ≡ 6) (ba : Bytes a) (G : (f : Option ℕ) → w ≡ Ok f → Good t a f (g f)) where
  -- A REFUSAL leaves every octet
  pub refusal-leaves : (c : Refusal) → (turned w g t a).answer.outcome ≡ outcome.Refused c → (turned w g t a).table ≡ t
  unfolding turned refused said finishes finish_at ends
  refusal-leaves c e = go w refl e
    where
      finished : (b : Bool) (s : Step) (x : Option ℕ) → (if b then refuse t why.Full else finish_at x t s a).answer.outcome ≡ outcome.Refused c → (if b then refuse t why.Full else finish_at x t s a).table ≡ t
      finished true s x q = refl
      finished false s (Some k) q = let z : ◌≡◌ {A = ℕ} 0 1 = cc in absurd (omega arith)
      finished false s None q = let z : ◌≡◌ {A = ℕ} 0 1 = cc in absurd (omega arith)

      go : (x : Result (Option ℕ) Refusal) → w ≡ x → (turned x g t a).answer.outcome ≡ outcome.Refused c → (turned x g t a).table ≡ t
      go (Err d) p q = refl
      go (Ok f) p q = finished (g f).refused (g f) (seating (decode_table t) f) q

  module _ (f : Option ℕ) (k : ℕ) (e : w ≡ Ok f) (n : (g f).refused ≡ false) (v : seating (decode_table t) f ≡ Some k) where
    in-slot : Sits (decode_table t) k f
    in-slot = sits (decode_table t) f k v

    whole : sound t ≡ true
    whole = (entered-seated t a f (G f e).came).whole

    below : k < slots (decode_table t)
    below = sits-below t f k (entered-seated t a f (G f e).came) in-slot

    held : k < length (decode_table t).peers
    held = omega (arith, peers-held t (slots (decode_table t)) (sound-whole t whole), below)

    pub placed-here : (turned w g t a).table ≡ encode_table (placed (decode_table t) k (g f).peer)
    unfolding turned finishes finish_at ends placed
    placed-here = ap (λ (x : Result (Option ℕ) Refusal). (turned x g t a).table) e ∙ rw (n, v) refl

    -- what the call leaves, read again
    pub leaves : decode_table (turned w g t a).table ≡ placed (decode_table t) k (g f).peer
    leaves = ap decode_table placed-here ∙ placed-decoded t k (g f).peer b whole (G f e).fits (good-storable t (g f).peer whole (G f e).fits (G f e).form)

    alone : Alone (decode_table t) k (g f).peer
    alone i l d u = subst (λ (y : List ℕ). belongs y (slot (decode_table t) i) ≡ false) (sym ((G f e).own u)) (others-free t a f k b la ba (G f e).came in-slot i l d)

    pub sound-here : sound (turned w g t a).table ≡ true
    sound-here = subst (λ (x : List ℕ). sound x ≡ true) (sym placed-here) (placed-sound t k (g f).peer b whole below (G f e).fits (G f e).form alone)

    -- the address has the step's record
    pub look-here : in_use (g f).peer ≡ true → look (decode_table (turned w g t a).table) a ≡ (g f).peer
    look-here u =
        ap (λ (T : Table). look T a) leaves
        ∙ look-same (decode_table t) k (g f).peer a held below (others-free t a f k b la ba (G f e).came in-slot) (self-record (g f).peer a u ((G f e).own u))

    -- EVERY OTHER ADDRESS has the record that it had
    pub look-elsewhere : (c : List ℕ) → same_address a c ≡ false → look (decode_table (turned w g t a).table) c ≡ look (decode_table t) c
    look-elsewhere c n =
        ap (λ (T : Table). look T c) leaves
        ∙ look-other (decode_table t) k (g f).peer c held (other-slot t a c f k b la ba (G f e).came in-slot n) (other-record (g f).peer a c (G f e).own n)

    -- THE COUNTS are true
    pub counts-true : (decode_table (turned w g t a).table).header.counts ≡ counts_of (decode_table (turned w g t a).table)
    counts-true = subst (λ (T : Table). T.header.counts ≡ counts_of T) (sym leaves) (placed-counts (decode_table t) k (g f).peer held)

    pub counts-used : (decode_table (turned w g t a).table).header.counts.used ≡ used_count (decode_table (turned w g t a).table)
    counts-used = ap (λ (n : Counts). n.used) counts-true

    pub counts-open : (decode_table (turned w g t a).table).header.counts.opened ≡ open_count (decode_table (turned w g t a).table)
    counts-open = ap (λ (n : Counts). n.opened) counts-true

  -- SOUND tables stay sound, and every other address keeps its record, whatever the call did
  pub stays-sound : sound t ≡ true → sound (turned w g t a).table ≡ true
  unfolding turned finishes finish_at
  stays-sound s = go w refl
    where
      kept : (l : Left) → turned w g t a ≡ l → l.table ≡ t → sound (turned w g t a).table ≡ true
      kept l q z = subst (λ (x : List ℕ). sound x ≡ true) (sym (ap (λ (y : Left). y.table) q ∙ z)) s

      ended : (f : Option ℕ) → w ≡ Ok f → (b : Bool) → (g f).refused ≡ b → (x : Option ℕ) → seating (decode_table t) f ≡ x → sound (turned w g t a).table ≡ true
      ended f e true n x v = kept (refuse t why.Full) (ap (λ (y : Result (Option ℕ) Refusal). turned y g t a) e ∙ rw n refl) refl
      ended f e false n (Some k) v = sound-here f k e n v
      ended f e false n None v = kept (finish_at None t (g f) a) (ap (λ (y : Result (Option ℕ) Refusal). turned y g t a) e ∙ rw (n, v) refl) (unchanged-ends (said (g f) a) t b s)

      go : (x : Result (Option ℕ) Refusal) → w ≡ x → sound (turned w g t a).table ≡ true
      go (Err d) p = kept (refuse t d) (ap (λ (y : Result (Option ℕ) Refusal). turned y g t a) p) refl
      go (Ok f) p = ended f p (g f).refused refl (seating (decode_table t) f) refl
