-- THE LOOKUPS: each refusal exactly when its cause holds; the next deadline against the clock call; the record where it is said to lie.
use mathlib.Core.Path.{◌≡◌, refl, sym, ap, ◌∙◌, subst}
use mathlib.Core.Logic.{◌⊎◌, inl, inr}
use mathlib.Core.Bool.{Bool, true, false, not, ◌||◌}
use mathlib.Core.List.{List}
use Prim.Native.Nat.{ℕ, zero, suc, ◌+◌, ◌^◌, ◌≤◌, ◌<◌}
use native.Mathlib.Decide.{ℕ_discrete}
use native.Mathlib.Omega.{arith}
use lib.ListN.{length}
use borrow.Author.Tests.{eq-eqb, ne_eqb}
use Rattle.std.specs.Prelude.{if◌then◌else◌, Option, Some, None, Ok, Err, is_none, Result}
use Rattle.octets.specs.Scan.{first_below}
use Rattle.octets.specs.Octets.{Bytes, part}
use Rattle.octets.proofs.Scan.{clash, and_left, and_right, first-at, first-nothing}
use Rattle.octets.proofs.Tests.{same-address}
use Rattle.groups.specs.Groups.{width}
use Rattle.record.specs.declared.Peer.{Peer}
use Rattle.record.specs.Layout.{decode_peer, record_size, record_at, no_run, no_link, no_peer}
use Rattle.record.proofs.Laws.{FitPeer, shape-peer}
use Rattle.soundness.proofs.Laws.{peer-unused, peer-in-use}
use Rattle.table.specs.Table.{Table, width_of, decode_table, slots, slot, in_use, belongs, finds, look_by, look, sound, entry}
use Rattle.table.proofs.Laws.{sound-whole, sound-peer, peers-held, found_below, ready}
use Rattle.table.proofs.Octets.{record_in, slot_at, after-header}
use Rattle.table.proofs.Fit.{fit-decoded, fit-slot}
use Rattle.rules.specs.Book.{has_run, has_link, expired}
use Rattle.causes.specs.declared.Refusal.TheVariants as why
use Rattle.answers.specs.Outcome as outcome
use Rattle.calls.specs.Calls.{due_slot, expires}
use Rattle.lookups.specs.Lookups.{asked_returned, later, no_deadline, peer_left, next_deadline, asks_deadline, offset_by, asks_offset}
use Rattle.lookups.proofs.Times.{peer-before, peer-reached, peer-most, peer-none, Idle, idle-left, idle-not-due, Least, nowhere, here, least-is, least-low, least-all}
use Rattle.call_laws.specs.Causes.{first_cause, rising, absent, clock_causes, find_causes}
use Rattle.call_laws.proofs.Ends.{Came, came, unsound, unusable, lacks, has, look-found}
use Rattle.call_laws.proofs.Refuses.{Iff, Exact, exact, served, expire-refuses}
use Rattle.causes.specs.declared.Refusal.{Refusal}

-- ---- the refusals

pub next-deadline-refuses : (t : List ℕ) (time : ℕ)
    → asks_deadline t time ≡ first_cause Err (clock_causes t) (Ok (next_deadline (decode_table t) time))
unfolding asks_deadline first_cause clock_causes
next-deadline-refuses t time = go (sound t)
  where
    go : (b : Bool) → (if b then Ok (next_deadline (decode_table t) time) else Err why.Unsound)
        ≡ (if not b then Err why.Unsound else Ok (next_deadline (decode_table t) time))
    go true = refl
    go false = refl

clock-rises : (t : List ℕ) → rising 0 (clock_causes t) ≡ true
unfolding rising clock_causes
clock-rises t = refl

pub next-deadline-exact : (t : List ℕ) (time : ℕ) → Exact (asked_returned (asks_deadline t time)) (clock_causes t)
next-deadline-exact t time = exact asked_returned Err _ (clock_causes t) _ (λ c. refl) refl (clock-rises t) (next-deadline-refuses t time)

find-refuses-by : (t a : List ℕ) (E : Result (Option ℕ) Refusal) → Came t a E
    → offset_by E (width_of t) ≡ first_cause Err (find_causes t a) (offset_by (Ok (finds (decode_table t) a)) (width_of t))
unfolding offset_by first_cause find_causes
find-refuses-by t a E (unsound s) = rw s
find-refuses-by t a E (unusable s u) = rw (s, u)
find-refuses-by t a E (lacks s u f) = rw (s, u, f)
find-refuses-by t a E (has s u f) = rw (s, u, f)

pub find-refuses : (t a : List ℕ) → asks_offset t a ≡ first_cause Err (find_causes t a) (offset_by (Ok (finds (decode_table t) a)) (width_of t))
unfolding asks_offset
find-refuses t a = find-refuses-by t a (entry t a) (came t a)

find-rises : (t a : List ℕ) → rising 0 (find_causes t a) ≡ true
unfolding rising find_causes
find-rises t a = refl

offset-answers : (f : Option ℕ) (W : ℕ) → asked_returned (offset_by (Ok f) W) ≡ 0
unfolding offset_by
offset-answers (Some k) W = refl
offset-answers None W = refl

pub find-exact : (t a : List ℕ) → Exact (asked_returned (asks_offset t a)) (find_causes t a)
find-exact t a =
    exact asked_returned Err _ (find_causes t a) _ (λ c. refl) (offset-answers (finds (decode_table t) a) (width_of t)) (find-rises t a) (find-refuses t a)

-- ---- the next deadline against the clock call

-- a number is answered only of a sound table
number-sound : (t : List ℕ) (time n : ℕ) → asks_deadline t time ≡ Ok n → (sound t ≡ true) × (next_deadline (decode_table t) time ≡ n)
unfolding asks_deadline
number-sound t time n e = go (sound t) refl e
  where
    go : (b : Bool) → sound t ≡ b → (if b then Ok (next_deadline (decode_table t) time) else Err why.Unsound) ≡ Ok n
        → (sound t ≡ true) × (next_deadline (decode_table t) time ≡ n)
    go true s q = (s, cc)
    go false s q = let z : ◌≡◌ {A = ℕ} 0 1 = cc in absurd (omega arith)

sound-number : (t : List ℕ) (time : ℕ) → sound t ≡ true → asks_deadline t time ≡ Ok (next_deadline (decode_table t) time)
unfolding asks_deadline
sound-number t time s = rw s

-- what the clock call says of a sound table
clock-says : (t : List ℕ) (time : ℕ) → sound t ≡ true → (expires t time).answer.outcome ≡ served (due_slot (decode_table t) time)
unfolding first_cause clock_causes
clock-says t time s = expire-refuses t time ∙ rw s

-- it serves a record only of a sound table
done-sound : (t : List ℕ) (time : ℕ) → (expires t time).answer.outcome ≡ outcome.Done → sound t ≡ true
unfolding first_cause clock_causes
done-sound t time q = go (sound t) refl (sym (expire-refuses t time) ∙ q)
  where
    go : (b : Bool) → sound t ≡ b → (if not b then outcome.Refused why.Unsound else served (due_slot (decode_table t) time)) ≡ outcome.Done → sound t ≡ true
    go true s e = s
    go false s e = let z : ◌≡◌ {A = ℕ} 0 1 = cc in absurd (omega arith)

none-due : (T : Table) (time : ℕ) → ((k : ℕ) → k < slots T → expired (slot T k) time ≡ false) → due_slot T time ≡ None
unfolding due_slot
none-due T time a = go (first_below (λ k. expired (slot T k) time) (slots T)) refl
  where
    go : (f : Option ℕ) → first_below (λ k. expired (slot T k) time) (slots T) ≡ f → f ≡ None
    go None e = refl
    go (Some k) e = let w = first-at (λ k. expired (slot T k) time) (slots T) k e in absurd (clash w.1 (a k w.0))

one-due : (T : Table) (time k : ℕ) → k < slots T → expired (slot T k) time ≡ true → served (due_slot T time) ≡ outcome.Done
unfolding due_slot
one-due T time k l d = go (first_below (λ k. expired (slot T k) time) (slots T)) refl
  where
    go : (f : Option ℕ) → first_below (λ k. expired (slot T k) time) (slots T) ≡ f → served f ≡ outcome.Done
    go (Some j) e = refl
    go None e = absurd (clash d (first-nothing (λ k. expired (slot T k) time) (slots T) e k l))

-- the record of a slot, and the time left until its deadlines
abbrev peer_at : List ℕ → ℕ → Peer
peer_at t k = slot (decode_table t) k

abbrev left_at : List ℕ → ℕ → ℕ → ℕ
left_at t time k = peer_left (peer_at t k) time

next-least : (t : List ℕ) (time n : ℕ) → next_deadline (decode_table t) time ≡ n → Least (left_at t time) (slots (decode_table t)) n
unfolding next_deadline
next-least t time n e = subst (Least (left_at t time) (slots (decode_table t))) e (least-is (left_at t time) (slots (decode_table t)))

next_low : (t : List ℕ) (time k : ℕ) → k < slots (decode_table t) → next_deadline (decode_table t) time ≤ left_at t time k
unfolding next_deadline
next_low t time k l = least-low (left_at t time) (slots (decode_table t)) k l

module _ (t : List ℕ) (b : Bytes t) (s : sound t ≡ true) where
  slot-fits : (k : ℕ) → k < slots (decode_table t) → FitPeer width (peer_at t k)
  slot-fits k l =
      let w : length t ≡ record_at (width_of t) (slots (decode_table t)) = sound-whole t s in
      let n : length (decode_table t).peers ≡ slots (decode_table t) = peers-held t (slots (decode_table t)) w in
      fit-slot (decode_table t) k (fit-decoded t (slots (decode_table t)) b w) (omega arith)

  -- a record is in use exactly if it has a run or a link
  free-idle : (k : ℕ) → k < slots (decode_table t) → in_use (peer_at t k) ≡ false → Idle (peer_at t k)
  unfolding no_peer no_run no_link
  free-idle k l u = elim (ℕ_discrete (peer_at t k).used 0) [
    | yes e ↦ let q : peer_at t k ≡ no_peer = peer-unused _ _ _ (peer_at t k) (shape-peer (slot-fits k l)) (sound-peer t s k l) e in (ap has_run q, ap has_link q)
    | no d ↦ let w = peer-in-use _ _ _ (peer_at t k) d (sound-peer t s k l) in absurd (clash (eq-eqb _ 1 w.used) u)
  ]

  idle-free : (k : ℕ) → k < slots (decode_table t) → Idle (peer_at t k) → in_use (peer_at t k) ≡ false
  idle-free k l i = elim (ℕ_discrete (peer_at t k).used 0) [
    | yes e ↦ ne_eqb (peer_at t k).used 1 (λ z. omega arith)
    | no d ↦
        let w = peer-in-use _ _ _ (peer_at t k) d (sound-peer t s k l) in
        let z : (has_run (peer_at t k) || has_link (peer_at t k)) ≡ false = rw (i.0, i.1) in
        absurd (clash w.some z)
  ]

  module _ (time : ℕ) (h : time < 2 ^ 32) where
    table_before : (d : ℕ) → d < next_deadline (decode_table t) time → due_slot (decode_table t) (later time d) ≡ None
    table_before d l =
        none-due (decode_table t) (later time d) (λ k m. peer-before (peer_at t k) (slot-fits k m) time h d (omega (arith, l, next_low t time k m)))

    table-reached : (n : ℕ) → Least (left_at t time) (slots (decode_table t)) n → n < no_deadline → served (due_slot (decode_table t) (later time n)) ≡ outcome.Done
    table-reached n nowhere l = absurd (omega arith)
    table-reached n (here k m) l = one-due (decode_table t) (later time n) k m (peer-reached (peer_at t k) (slot-fits k m) time h l)

    table-most : (n : ℕ) → Least (left_at t time) (slots (decode_table t)) n → (n ≤ 2 ^ 31) ⊎ (n ≡ no_deadline)
    table-most n nowhere = inr refl
    table-most n (here k m) = peer-most (peer_at t k) (slot-fits k m) time h

    -- all ones: no record has a deadline
    table_none : next_deadline (decode_table t) time ≡ no_deadline → (k : ℕ) → k < slots (decode_table t) → Idle (peer_at t k)
    table_none e k l = peer-none (peer_at t k) (slot-fits k l) time h (go (peer-most (peer_at t k) (slot-fits k l) time h))
      where
        go : (left_at t time k ≤ 2 ^ 31) ⊎ (left_at t time k ≡ no_deadline) → left_at t time k ≡ no_deadline
        go (inl m) = absurd (omega (arith, e, m, next_low t time k l))
        go (inr q) = q

    table-idle : ((k : ℕ) → k < slots (decode_table t) → in_use (peer_at t k) ≡ false) → next_deadline (decode_table t) time ≡ no_deadline
    unfolding next_deadline
    table-idle a = least-all (left_at t time) (slots (decode_table t)) (λ k l. idle-left (peer_at t k) (free-idle k l (a k l)) time)

-- FOR EVERY TABLE OF OCTETS and every reading of the clock
module _ (t : List ℕ) (b : Bytes t) (time : ℕ) (h : time < 2 ^ 32) where
  module _ (n : ℕ) (e : asks_deadline t time ≡ Ok n) where
    -- UNTIL THEN the clock call says that none is due
    pub none_before : (d : ℕ) → d < n → (expires t (later time d)).answer.outcome ≡ outcome.NoneDue
    none_before d l =
        let w = number-sound t time n e in
        clock-says t (later time d) w.0 ∙ ap served (table_before t b w.0 time h d (rw w.1 l))

    -- THEN it serves a record
    pub served-then : n < no_deadline → (expires t (later time n)).answer.outcome ≡ outcome.Done
    served-then l =
        let w = number-sound t time n e in
        clock-says t (later time n) w.0 ∙ table-reached t b w.0 time h n (next-least t time n w.1) l

    -- 2^31 milliseconds at most, or all ones
    pub deadline-most : (n ≤ 2 ^ 31) ⊎ (n ≡ no_deadline)
    deadline-most = let w = number-sound t time n e in table-most t b w.0 time h n (next-least t time n w.1)

    -- all ones: none is due at any reading
    pub never-due : n ≡ no_deadline → (reading : ℕ) → (expires t reading).answer.outcome ≡ outcome.NoneDue
    never-due q reading =
        let w = number-sound t time n e in
        clock-says t reading w.0
        ∙ ap served (none-due (decode_table t) reading (λ k l. idle-not-due (peer_at t k) (table_none t b w.0 time h (w.1 ∙ q) k l) reading))

  -- 0 EXACTLY if the clock call serves a record now
  pub zero-exactly : Iff (asks_deadline t time ≡ Ok 0) ((expires t time).answer.outcome ≡ outcome.Done)
  zero-exactly = record { to = to; from = from }
    where
      now : later time 0 ≡ time
      now = omega arith

      to : asks_deadline t time ≡ Ok 0 → (expires t time).answer.outcome ≡ outcome.Done
      to e = subst (λ (x : ℕ). (expires t x).answer.outcome ≡ outcome.Done) now (served-then 0 e (omega arith))

      waits : (n : ℕ) → asks_deadline t time ≡ Ok n → (expires t time).answer.outcome ≡ outcome.Done → n ≡ 0
      waits zero e q = refl
      waits (suc n) e q =
          let w : (expires t (later time 0)).answer.outcome ≡ outcome.NoneDue = none_before (suc n) e 0 (omega arith) in
          let v : (expires t (later time 0)).answer.outcome ≡ outcome.Done = subst (λ (x : ℕ). (expires t x).answer.outcome ≡ outcome.Done) (sym now) q in
          let z : ◌≡◌ {A = ℕ} 0 1 = cc in
          absurd (omega arith)

      from : (expires t time).answer.outcome ≡ outcome.Done → asks_deadline t time ≡ Ok 0
      from q =
          let s : sound t ≡ true = done-sound t time q in
          sound-number t time s ∙ ap Ok (waits (next_deadline (decode_table t) time) (sound-number t time s) q)

  -- ALL ONES EXACTLY if the table is sound and no record is in use
  pub none-exactly : Iff (asks_deadline t time ≡ Ok no_deadline)
      ((sound t ≡ true) × ((k : ℕ) → k < slots (decode_table t) → in_use (slot (decode_table t) k) ≡ false))
  none-exactly =
      record {
        to = λ e. let w = number-sound t time no_deadline e in (w.0, λ k l. idle-free t b w.0 k l (table_none t b w.0 time h w.1 k l));
        from = λ f. sound-number t time f.0 ∙ ap Ok (table-idle t b f.0 time h f.1);
      }

-- ---- where a record lies

-- the record of the address lies there: within the table, its octets those of the record that is found, in use, and its address the one asked for
pub record Lies (t a : List ℕ) (n : ℕ) : Type 0 where
  pub inside : n + record_size (width_of t) ≤ length t
  pub octets : decode_peer (width_of t) (part t n (record_size (width_of t))) ≡ look (decode_table t) a
  pub in-use : in_use (look (decode_table t) a) ≡ true
  pub address : (look (decode_table t) a).address ≡ a

module _ (t a : List ℕ) (b : Bytes t) (c : Bytes a) (l : length a ≡ 6) where
  lies_at : (k : ℕ) → sound t ≡ true → finds (decode_table t) a ≡ Some k → Lies t a (record_at (width_of t) k)
  unfolding belongs look_by record_in
  lies_at k s f =
      let w = found_below (decode_table t) a k f in
      let r = ready t s k w.0 in
      let q : slot (decode_table t) k ≡ look (decode_table t) a = look-found (decode_table t) a (Some k) f in
      let g = slot-fits t b s k w.0 in
      let m : (slot (decode_table t) k).address ≡ a = same-address _ a (g.address ∙ sym l) g.bytes c (and_right (in_use (slot (decode_table t) k)) _ w.1) in
      record {
        inside = r.fits;
        octets = sym (slot_at t k r.fits) ∙ q;
        in-use = rw (← q) (and_left _ _ w.1);
        address = rw (← q) m;
      }

  zero-by : (n : ℕ) (E : Result (Option ℕ) Refusal) → Came t a E → offset_by E (width_of t) ≡ Ok n → Iff (n ≡ 0) (absent (decode_table t) a ≡ true)
  unfolding offset_by absent
  zero-by n E (unsound s) e = let z : ◌≡◌ {A = ℕ} 0 1 = cc in absurd (omega arith)
  zero-by n E (unusable s u) e = let z : ◌≡◌ {A = ℕ} 0 1 = cc in absurd (omega arith)
  zero-by n E (lacks s u f) e = record { to = λ z. rw f; from = λ z. cc }
  zero-by n E (has {k} s u f) e =
      let q : record_at (width_of t) k ≡ n = cc in
      let y : is_none (finds (decode_table t) a) ≡ false = rw f in
      record { to = λ z. absurd (omega (arith, after-header (width_of t) k)); from = λ z. absurd (clash z y) }

  lies-by : (n : ℕ) (E : Result (Option ℕ) Refusal) → Came t a E → offset_by E (width_of t) ≡ Ok n → (n ≡ 0 → ⊥) → Lies t a n
  unfolding offset_by
  lies-by n E (unsound s) e d = let z : ◌≡◌ {A = ℕ} 0 1 = cc in absurd (omega arith)
  lies-by n E (unusable s u) e d = let z : ◌≡◌ {A = ℕ} 0 1 = cc in absurd (omega arith)
  lies-by n E (lacks s u f) e d = absurd (d (cc))
  lies-by n E (has {k} s u f) e d = let q : record_at (width_of t) k ≡ n = cc in subst (Lies t a) q (lies_at k s f)

  module _ (n : ℕ) (e : asks_offset t a ≡ Ok n) where
    -- 0 EXACTLY if the address has no record
    pub offset-zero : Iff (n ≡ 0) (absent (decode_table t) a ≡ true)
    unfolding asks_offset
    offset-zero = zero-by n (entry t a) (came t a) e

    -- ELSE its record lies there
    pub offset-lies : (n ≡ 0 → ⊥) → Lies t a n
    unfolding asks_offset
    offset-lies d = lies-by n (entry t a) (came t a) e d
