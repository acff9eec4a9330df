-- A TIME LEFT and the clock: until it has passed no deadline is due, and then one is. Readings and deadlines are below 2^32; the clock wraps.
use Rattle.std.proofs.Common.{◌≡◌, ℕ, zero, suc, ◌+◌, ◌-◌, ◌%◌, ◌^◌, ◌<◌, ◌≤◌, Bool, true, false, ◌&&◌, ◌||◌, ltb, ◌⊎◌, refl, inl, inr, arith, ltb-false, ltb-true, le-ltb, lt-ltb}
use native.Mathlib.Decide.{ℕ_discrete}
use Rattle.std.specs.Prelude.{if◌then◌else◌}
use Rattle.octets.proofs.Scan.{cases}
use Rattle.groups.specs.Groups.{width}
use Rattle.record.specs.declared.Peer.{Peer}
use Rattle.record.proofs.Laws.{FitPeer}
use Rattle.rules.specs.Book.{due, has_run, has_link, t0_due, t1_due, expired}
use Rattle.lookups.specs.Lookups.{later, no_deadline, time_left, left_if, lesser, peer_left, least_below}

-- ---- one deadline

-- how far a deadline that is not due lies ahead
ahead-most : (time at : ℕ) → time < 2 ^ 32 → at < 2 ^ 32 → 2 ^ 31 ≤ (time + 2 ^ 32 - at) % 2 ^ 32 → (at + 2 ^ 32 - time) % 2 ^ 32 ≤ 2 ^ 31
ahead-most time at h k g = omega arith

-- before it has passed
ahead_before : (time at d s : ℕ) → time < 2 ^ 32 → at < 2 ^ 32 → 2 ^ 31 ≤ (time + 2 ^ 32 - at) % 2 ^ 32 → d < (at + 2 ^ 32 - time) % 2 ^ 32
    → s ≡ (time + d) % 2 ^ 32 → 2 ^ 31 ≤ (s + 2 ^ 32 - at) % 2 ^ 32
ahead_before time at d s h k g l e = omega arith

-- once it has
ahead-reached : (time at s : ℕ) → time < 2 ^ 32 → at < 2 ^ 32 → s ≡ (time + (at + 2 ^ 32 - time) % 2 ^ 32) % 2 ^ 32 → (s + 2 ^ 32 - at) % 2 ^ 32 < 2 ^ 31
ahead-reached time at s h k e = omega arith

module _ (time at : ℕ) (h : time < 2 ^ 32) (k : at < 2 ^ 32) where
  not-due : due time at ≡ false → 2 ^ 31 ≤ (time + 2 ^ 32 - at) % 2 ^ 32
  unfolding due
  not-due e = ltb-false _ _ e

  -- 2^31 at most
  pub left-most : time_left time at ≤ 2 ^ 31
  unfolding time_left
  left-most = go (cases (due time at))
    where
      go : (due time at ≡ true) ⊎ (due time at ≡ false) → (if due time at then 0 else (at + 2 ^ 32 - time) % 2 ^ 32) ≤ 2 ^ 31
      go (inl e) = rw e (omega arith)
      go (inr e) = rw e (ahead-most time at h k (not-due e))

  pub left-before : (d : ℕ) → d < time_left time at → due (later time d) at ≡ false
  unfolding time_left due
  left-before d l = go (cases (due time at)) l
    where
      go : (due time at ≡ true) ⊎ (due time at ≡ false) → d < (if due time at then 0 else (at + 2 ^ 32 - time) % 2 ^ 32) → due (later time d) at ≡ false
      go (inl e) m = let z : d < 0 = rw e at m in absurd (omega arith)
      go (inr e) m = le-ltb _ _ (ahead_before time at d (later time d) h k (not-due e) (rw e at m) refl)

  pub left-reached : due (later time (time_left time at)) at ≡ true
  unfolding time_left due
  left-reached = go (cases (due time at))
    where
      go : (due time at ≡ true) ⊎ (due time at ≡ false) → due (later time (if due time at then 0 else (at + 2 ^ 32 - time) % 2 ^ 32)) at ≡ true
      go (inl e) = let z : later time 0 ≡ time = omega arith in rw (e, z) e
      go (inr e) = rw e (lt-ltb _ _ (ahead-reached time at (later time ((at + 2 ^ 32 - time) % 2 ^ 32)) h k refl))

  -- the same of a deadline that may not count
  pub if-before : (c : Bool) (d : ℕ) → d < left_if c time at → (c && due (later time d) at) ≡ false
  if-before true d l = left-before d l
  if-before false d l = refl

  pub if-reached : (c : Bool) → left_if c time at < no_deadline → (c && due (later time (left_if c time at)) at) ≡ true
  if-reached true l = left-reached
  if-reached false l = absurd (omega arith)

  pub if-most : (c : Bool) → (left_if c time at ≤ 2 ^ 31) ⊎ (left_if c time at ≡ no_deadline)
  if-most true = inl left-most
  if-most false = inr refl

  pub if_none : (c : Bool) → left_if c time at ≡ no_deadline → c ≡ false
  if_none true e = absurd (omega (arith, left-most))
  if_none false e = refl

-- ---- the lesser of two

pub lesser-left : (a b : ℕ) → lesser a b ≤ a
lesser-left a b = go (cases (ltb b a))
  where
    go : (ltb b a ≡ true) ⊎ (ltb b a ≡ false) → lesser a b ≤ a
    go (inl e) = rw e (omega (arith, ltb-true b a e))
    go (inr e) = rw e (omega arith)

pub lesser-right : (a b : ℕ) → lesser a b ≤ b
lesser-right a b = go (cases (ltb b a))
  where
    go : (ltb b a ≡ true) ⊎ (ltb b a ≡ false) → lesser a b ≤ b
    go (inl e) = rw e (omega arith)
    go (inr e) = rw e (omega (arith, ltb-false b a e))

pub lesser-one : (a b : ℕ) → (lesser a b ≡ a) ⊎ (lesser a b ≡ b)
lesser-one a b = go (ltb b a)
  where
    go : (c : Bool) → ((if c then b else a) ≡ a) ⊎ ((if c then b else a) ≡ b)
    go true = inr refl
    go false = inl refl

-- ---- one record

or-none : (a b : Bool) → a ≡ false → b ≡ false → (a || b) ≡ false
or-none a b p q = rw (p, q)

or-first : (a b : Bool) → a ≡ true → (a || b) ≡ true
or-first a b p = rw p

or-second : (a b : Bool) → b ≡ true → (a || b) ≡ true
or-second true b q = refl
or-second false b q = q

-- neither run nor link
abbrev pub Idle : Peer → Type 0
Idle p = (has_run p ≡ false) × (has_link p ≡ false)

module _ (p : Peer) (f : FitPeer width p) (time : ℕ) (h : time < 2 ^ 32) where
  abbrev run : ℕ
  run = left_if (has_run p) time p.run.t0

  abbrev link : ℕ
  link = left_if (has_link p) time p.link.t1

  t0-fits : p.run.t0 < 2 ^ 32
  t0-fits = omega (arith, f.run.shape.t0)

  t1-fits : p.link.t1 < 2 ^ 32
  t1-fits = omega (arith, f.link.shape.t1)

  pub peer-before : (d : ℕ) → d < peer_left p time → expired p (later time d) ≡ false
  unfolding peer_left expired t0_due t1_due
  peer-before d l =
      or-none _ _ (if-before time p.run.t0 h t0-fits (has_run p) d (omega (arith, l, lesser-left run link)))
      (if-before time p.link.t1 h t1-fits (has_link p) d (omega (arith, l, lesser-right run link)))

  pub peer-reached : peer_left p time < no_deadline → expired p (later time (peer_left p time)) ≡ true
  unfolding peer_left expired t0_due t1_due
  peer-reached l = go (lesser-one run link)
    where
      go : (lesser run link ≡ run) ⊎ (lesser run link ≡ link)
          → ((has_run p && due (later time (lesser run link)) p.run.t0) || (has_link p && due (later time (lesser run link)) p.link.t1)) ≡ true
      go (inl e) = rw e (or-first _ _ (if-reached time p.run.t0 h t0-fits (has_run p) (rw e at l)))
      go (inr e) = rw e (or-second (has_run p && due (later time link) p.run.t0) _ (if-reached time p.link.t1 h t1-fits (has_link p) (rw e at l)))

  pub peer-most : (peer_left p time ≤ 2 ^ 31) ⊎ (peer_left p time ≡ no_deadline)
  unfolding peer_left
  peer-most = go (lesser-one run link)
    where
      go : (lesser run link ≡ run) ⊎ (lesser run link ≡ link) → (lesser run link ≤ 2 ^ 31) ⊎ (lesser run link ≡ no_deadline)
      go (inl e) = rw e (if-most time p.run.t0 h t0-fits (has_run p))
      go (inr e) = rw e (if-most time p.link.t1 h t1-fits (has_link p))

  if-high : (c : Bool) (at : ℕ) → at < 2 ^ 32 → left_if c time at ≤ no_deadline
  if-high true at k = omega (arith, left-most time at h k)
  if-high false at k = omega arith

  -- no deadline: neither run nor link
  pub peer-none : peer_left p time ≡ no_deadline → Idle p
  unfolding peer_left
  peer-none e =
      let a : run ≡ no_deadline = omega (arith, e, lesser-left run link, if-high (has_run p) p.run.t0 t0-fits) in
      let b : link ≡ no_deadline = omega (arith, e, lesser-right run link, if-high (has_link p) p.link.t1 t1-fits) in
      (if_none time p.run.t0 h t0-fits (has_run p) a, if_none time p.link.t1 h t1-fits (has_link p) b)

-- and without either, at any reading
module _ (p : Peer) (i : Idle p) (time : ℕ) where
  pub idle-left : peer_left p time ≡ no_deadline
  unfolding peer_left
  idle-left = rw (i.0, i.1)

  pub idle-not-due : expired p time ≡ false
  unfolding expired t0_due t1_due
  idle-not-due = rw (i.0, i.1)

-- ---- the least of all

-- where it is: all ones, or the value of one of them
pub data Least (f : ℕ → ℕ) (n : ℕ) : ℕ → Type 0 where
  nowhere : Least f n no_deadline
  here : (k : ℕ) → k < n → Least f n (f k)

module _ (f : ℕ → ℕ) where
  least-wider : (n m : ℕ) → Least f n m → Least f (suc n) m
  least-wider n m nowhere = nowhere
  least-wider n m (here k l) = here k (omega arith)

  pub least-is : (n : ℕ) → Least f n (least_below f n)
  unfolding least_below
  least-is zero = nowhere
  least-is (suc n) = go (ltb (f n) (least_below f n)) (least-wider n (least_below f n) (least-is n))
    where
      go : (c : Bool) → Least f (suc n) (least_below f n) → Least f (suc n) (if c then f n else least_below f n)
      go true w = here n (omega arith)
      go false w = w

  pub least-low : (n k : ℕ) → k < n → least_below f n ≤ f k
  unfolding least_below
  least-low zero k l = absurd (omega arith)
  least-low (suc n) k l = elim (ℕ_discrete k n) [
    | yes e ↦ rw e (lesser-right (least_below f n) (f n))
    | no d ↦ omega (arith, least-low n k (omega arith), lesser-left (least_below f n) (f n))
  ]

  -- all ones if each is
  pub least-all : (n : ℕ) → ((k : ℕ) → k < n → f k ≡ no_deadline) → least_below f n ≡ no_deadline
  least-all n a = go _ (least-is n)
    where
      go : (m : ℕ) → Least f n m → m ≡ no_deadline
      go m nowhere = refl
      go m (here k l) = a k l
