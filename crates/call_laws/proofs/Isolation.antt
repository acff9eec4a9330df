-- ISOLATION OVER LISTS OF CALLS: "Others' calls reach a peer's record and answers only through Open against the threshold, free slots, and whose deadline the
-- clock call takes." A call about another address leaves this one its record; the same call about it, where the same reaches it, does the same at both tables.
use Rattle.std.specs.Prelude.{Option, Some, None}
use mathlib.Core.Path.{◌≡◌, refl, sym, ap, ◌∙◌, subst}
use mathlib.Core.Logic.{inl, inr}
use mathlib.Core.Bool.{true, false}
use mathlib.Core.List.{List, [], ◌∷◌}
use Prim.Native.Nat.{ℕ, ◌+◌, ◌^◌, ◌≤◌, ◌<◌}
use native.Mathlib.Omega.{arith}
use lib.ListN.{length}
use borrow.Author.Tests.{eq-eqb}
use Rattle.octets.specs.Octets.{Bytes, part, same_address}
use Rattle.octets.proofs.Laws.{part-part}
use Rattle.octets.proofs.Scan.{clash, cases, and_right}
use Rattle.octets.proofs.Tests.{same-address}
use Rattle.record.specs.declared.Form.{Form}
use Rattle.record.specs.Layout.{form_of, width_in, groups_of, decode_header, header_of, header_widths, no_peer, period_of, limit_of}
use Rattle.record.specs.Codec.{cut}
use Rattle.record.specs.declared.Settings.{Settings}
use Rattle.table.specs.Table.{Table, decode_table, slot, in_use, belongs, finds, look_by, look, sound}
use Rattle.table.proofs.Laws.{entry-found}
use Rattle.initial.specs.Initial.{slots_for, initial_header, initial_table, initial_ok}
use Rattle.initial.proofs.Initial.{FitSettings, initial-slot, initial-served, initial-decoded}
use Rattle.writer.specs.Writer.{writes_record}
use Rattle.calls.specs.Calls.{crowded, full, initializes, due_slot, expires}
use Rattle.call_laws.specs.Alike.{SameFor, Alike}
use Rattle.call_laws.specs.Isolation.{PeerCall, initiate, kill, receive, expire, Handed, an_initiate, a_kill, a_receive, an_expire, AllHanded, none, more}
use Rattle.call_laws.specs.Isolation.{left, after, about, Reach, reach, reaches, answers, Isolation}
use Rattle.call_laws.proofs.Good.{due-used, due-entry, expire_address}
use Rattle.call_laws.proofs.Ends.{look-found, set-up-leaves}
use Rattle.call_laws.proofs.Sound.{Keeping, initiate-keeps, kill-keeps, receive-keeps, expire-keeps-due, expire-keeps-none, initialize-makes}
use Rattle.call_laws.proofs.Isolated.{Isolated, initiate-isolated, kill-isolated, receive-isolated, expire-isolated, write-record-isolated}

-- ---- what every call keeps for every address: a sound table, own address, groups, width, first period and Sync limit

pub record Stays (t u : List ℕ) : Type 0 where
  pub sound : sound u ≡ true
  pub bytes : Bytes u
  pub own : (decode_table u).header.own ≡ (decode_table t).header.own
  pub groups : groups_of (decode_table u).header ≡ groups_of (decode_table t).header
  pub width : width_in (decode_table u).header ≡ width_in (decode_table t).header
  pub period : period_of (decode_table u).header.settings.period ≡ period_of (decode_table t).header.settings.period
  pub limit : limit_of (decode_table u).header.settings.limit ≡ limit_of (decode_table t).header.settings.limit

pub stays-itself : (t : List ℕ) → Bytes t → sound t ≡ true → Stays t t
stays-itself t b s = record { sound = s; bytes = b; own = refl; groups = refl; width = refl; period = refl; limit = refl }

pub stays_on : (t u v : List ℕ) → Stays t u → Stays u v → Stays t v
stays_on t u v R C =
    record {
      sound = C.sound;
      bytes = C.bytes;
      own = C.own ∙ R.own;
      groups = C.groups ∙ R.groups;
      width = C.width ∙ R.width;
      period = C.period ∙ R.period;
      limit = C.limit ∙ R.limit;
    }

module _ (t b u : List ℕ) (K : Keeping t b u) where
  back-part : (at n : ℕ) → at + n ≤ 18 → part u (14 + at) n ≡ part t (14 + at) n
  back-part at n h = sym (part-part u 14 18 at n h) ∙ ap (λ (s : List ℕ). part s at n) K.back ∙ part-part t 14 18 at n h

  middle-part : (at n : ℕ) → at + n ≤ 6 → part u (6 + at) n ≡ part t (6 + at) n
  middle-part at n h = sym (part-part u 6 6 at n h) ∙ ap (λ (s : List ℕ). part s at n) K.middle ∙ part-part t 6 6 at n h

  own-kept : (decode_table u).header.own ≡ (decode_table t).header.own
  unfolding decode_table decode_header header_of cut header_widths
  own-kept = back-part 2 6 (omega arith)

  groups-kept : groups_of (decode_table u).header ≡ groups_of (decode_table t).header
  unfolding decode_table decode_header header_of cut header_widths
  groups-kept =
      let c : part u 22 1 ≡ part t 22 1 = back-part 8 1 (omega arith) in
      let g : part u 24 2 ≡ part t 24 2 = back-part 10 2 (omega arith) in
      let h : part u 26 2 ≡ part t 26 2 = back-part 12 2 (omega arith) in
      let i : part u 30 2 ≡ part t 30 2 = back-part 16 2 (omega arith) in
      rw (c, g, h, i)

  width-kept : width_in (decode_table u).header ≡ width_in (decode_table t).header
  unfolding decode_table decode_header header_of cut header_widths
  width-kept = let e : part u 6 2 ≡ part t 6 2 = middle-part 0 2 (omega arith) in rw e

  period-kept : period_of (decode_table u).header.settings.period ≡ period_of (decode_table t).header.settings.period
  unfolding decode_table decode_header header_of cut header_widths
  period-kept = let e : part u 14 2 ≡ part t 14 2 = back-part 0 2 (omega arith) in rw e

  limit-kept : limit_of (decode_table u).header.settings.limit ≡ limit_of (decode_table t).header.settings.limit
  unfolding decode_table decode_header header_of cut header_widths
  limit-kept = let e : part u 23 1 ≡ part t 23 1 = back-part 9 1 (omega arith) in rw e

  keeping-stays : Stays t u
  keeping-stays =
      record { sound = K.table.sound; bytes = K.bytes; own = own-kept; groups = groups-kept; width = width-kept; period = period-kept; limit = limit-kept }

pub call_stays : (t : List ℕ) (c : PeerCall) → Bytes t → sound t ≡ true → Handed c → Stays t (left t c).table
call_stays t (initiate address time fresh) b s (an_initiate la ba ht bf) = keeping-stays t address _ (initiate-keeps t address time fresh b la ba ht bf s)
call_stays t (kill address) b s (a_kill la ba) = keeping-stays t address _ (kill-keeps t address b la ba s)
call_stays t (receive address time frame fresh expected verdict) b s (a_receive la ba ht br bf be hv) =
    keeping-stays t address _ (receive-keeps t address time frame fresh expected verdict b la ba ht br bf be hv s)
call_stays t (expire time) b s (an_expire ht) = go (due_slot (decode_table t) time) refl
  where
    go : (f : Option ℕ) → due_slot (decode_table t) time ≡ f → Stays t (expires t time).table
    go (Some k) e = keeping-stays t (slot (decode_table t) k).address _ (expire-keeps-due t time k b ht s e)
    go None e = subst (Stays t) (sym (expire-keeps-none t time b e)) (stays-itself t b s)

after-stays : (t : List ℕ) (cs : List PeerCall) → Bytes t → sound t ≡ true → AllHanded cs → Stays t (after t cs)
unfolding after
after-stays t [] b s none = stays-itself t b s
after-stays t (c ∷ cs) b s (more h hs) =
    let R = after-stays t cs b s hs in stays_on t (after t cs) _ R (call_stays (after t cs) c R.bytes R.sound h)

-- ---- a call about another address leaves this one its record

module _ (t a : List ℕ) (b : Bytes t) (s : sound t ≡ true) where
  -- the clock call, by whose deadline it takes
  other-expire : (time : ℕ) (f : Option ℕ) → time < 2 ^ 32 → due_slot (decode_table t) time ≡ f → belongs a (look_by (decode_table t) f) ≡ false
      → look (decode_table (expires t time).table) a ≡ look (decode_table t) a
  unfolding belongs look_by
  other-expire time (Some k) ht e n =
      let i : in_use (slot (decode_table t) k) ≡ true = eq-eqb _ _ (due-used t time k b s e) in
      (expire-keeps-due t time k b ht s e).elsewhere a (rw i at n)
  other-expire time None ht e n = ap (λ (u : List ℕ). look (decode_table u) a) (expire-keeps-none t time b e)

  other-keeps : (c : PeerCall) → Handed c → about a t c ≡ false → look (decode_table (left t c).table) a ≡ look (decode_table t) a
  other-keeps (initiate address time fresh) (an_initiate la ba ht bf) n = (initiate-keeps t address time fresh b la ba ht bf s).elsewhere a n
  other-keeps (kill address) (a_kill la ba) n = (kill-keeps t address b la ba s).elsewhere a n
  other-keeps (receive address time frame fresh expected verdict) (a_receive la ba ht br bf be hv) n =
      (receive-keeps t address time frame fresh expected verdict b la ba ht br bf be hv s).elsewhere a n
  other-keeps (expire time) (an_expire ht) n = other-expire time (due_slot (decode_table t) time) ht refl n

-- ---- the same call about the address, at two tables that are the same for it

-- the record that the clock call takes is the address's
module _ (t a : List ℕ) (b : Bytes t) (s : sound t ≡ true) (la : length a ≡ 6) (ba : Bytes a) (time k : ℕ) (e : due_slot (decode_table t) time ≡ Some k)
    (m : belongs a (slot (decode_table t) k) ≡ true) where
  taken-address : (slot (decode_table t) k).address ≡ a
  unfolding belongs
  taken-address = let x = expire_address t time k b s e in same-address _ a (x.0 ∙ sym la) x.1 ba (and_right (in_use (slot (decode_table t) k)) _ m)

  taken-record : slot (decode_table t) k ≡ look (decode_table t) a
  unfolding look_by
  taken-record =
      let f = (entry-found t _ (Some k) (due-entry t time k b s e)).1.1 in
      look-found (decode_table t) a (Some k) (subst (λ (x : List ℕ). finds (decode_table t) x ≡ Some k) taken-address f)

module _ (t u a : List ℕ) (bt : Bytes t) (bu : Bytes u) (la : length a ≡ 6) (ba : Bytes a) (S : SameFor t u a) where
  same-expire : (time : ℕ) (f g : Option ℕ) → time < 2 ^ 32 → due_slot (decode_table t) time ≡ f → due_slot (decode_table u) time ≡ g
      → belongs a (look_by (decode_table t) f) ≡ true → belongs a (look_by (decode_table u) g) ≡ true → Isolated a (expires t time) (expires u time)
  unfolding belongs look_by no_peer
  same-expire time (Some k) (Some j) ht e i m n =
      subst (λ (x : List ℕ). Isolated x (expires t time) (expires u time)) (taken-address t a bt S.sound₁ la ba time k e m)
      (expire-isolated t u time k j bt bu ht S.sound₁ S.sound₂ S.period S.limit e i
      (taken-record t a bt S.sound₁ la ba time k e m ∙ S.peer ∙ sym (taken-record u a bu S.sound₂ la ba time j i n)))
  same-expire time (Some k) None ht e i m n = absurd (clash n refl)
  same-expire time None g ht e i m n = absurd (clash m refl)

  -- the call is handed the address, and what it asks of the table is alike
  given : (address : List ℕ) → length address ≡ 6 → Bytes address → same_address address a ≡ true → address ≡ a
  given address lb bb m = same-address address a (lb ∙ sym la) bb ba m

  alike : crowded (decode_table t).header ≡ crowded (decode_table u).header → full (decode_table t) ≡ full (decode_table u) → Alike t u a
  alike p q = record { same = S; crowded = p; full = q }

  same-call : (c : PeerCall) → Handed c → about a t c ≡ true → about a u c ≡ true → reach t c ≡ reach u c → Isolated a (left t c) (left u c)
  same-call (initiate address time fresh) (an_initiate lb bb ht bf) m n e =
      let A = alike (ap (λ (r : Reach). r.crowded) e) (ap (λ (r : Reach). r.full) e) in
      rw (given address lb bb m) (initiate-isolated t u a time fresh bt bu la ba ht bf A)
  same-call (kill address) (a_kill lb bb) m n e = rw (given address lb bb m) (kill-isolated t u a bt bu la ba S)
  same-call (receive address time frame fresh expected verdict) (a_receive lb bb ht br bf be hv) m n e =
      let A = alike (ap (λ (r : Reach). r.crowded) e) (ap (λ (r : Reach). r.full) e) in
      rw (given address lb bb m) (receive-isolated t u a time frame fresh expected verdict bt bu la ba ht br bf be hv A)
  same-call (expire time) (an_expire ht) m n e = same-expire time (due_slot (decode_table t) time) (due_slot (decode_table u) time) ht refl refl m n

-- ---- what a call adds to what reaches the address, and to its answers

module _ (a t : List ℕ) (c : PeerCall) (cs : List PeerCall) where
  other-reaches : about a (after t cs) c ≡ false → reaches a t (c ∷ cs) ≡ reaches a t cs
  unfolding reaches
  other-reaches n = rw n

  about-reaches : about a (after t cs) c ≡ true → reaches a t (c ∷ cs) ≡ reach (after t cs) c ∷ reaches a t cs
  unfolding reaches
  about-reaches n = rw n

  other-answers : about a (after t cs) c ≡ false → answers a t (c ∷ cs) ≡ answers a t cs
  unfolding answers
  other-answers n = rw n

  about-answers : about a (after t cs) c ≡ true → answers a t (c ∷ cs) ≡ (left (after t cs) c).answer ∷ answers a t cs
  unfolding answers
  about-answers n = rw n

some-not-none : {r : Reach} {rs : List Reach} → r ∷ rs ≡ [] → ⊥
some-not-none e = let z : ◌≡◌ {A = ℕ} 0 1 = cc in omega arith

same-cons : {r q : Reach} {rs qs : List Reach} → r ∷ rs ≡ q ∷ qs → (r ≡ q) × (rs ≡ qs)
same-cons e = (cc, cc)

-- tables that are the same for the address stay so where it finds the same record in what is left of them
moved : (t u v w a : List ℕ) → SameFor t u a → Stays t v → Stays u w → look (decode_table v) a ≡ look (decode_table w) a → SameFor v w a
moved t u v w a S X Y e =
    record {
      sound₁ = X.sound;
      sound₂ = Y.sound;
      own = X.own ∙ S.own ∙ sym Y.own;
      groups = X.groups ∙ S.groups ∙ sym Y.groups;
      width = X.width ∙ S.width ∙ sym Y.width;
      period = X.period ∙ S.period ∙ sym Y.period;
      limit = X.limit ∙ S.limit ∙ sym Y.limit;
      peer = e;
    }

-- ---- the theorem

module _ (t u a : List ℕ) (bt : Bytes t) (bu : Bytes u) (la : length a ≡ 6) (ba : Bytes a) (S : SameFor t u a) where
  -- one call more, after lists of which it holds
  module _ (cs ds : List PeerCall) (hs : AllHanded cs) (ks : AllHanded ds) (I : Isolation t u a cs ds) where
    T : Stays t (after t cs)
    T = after-stays t cs bt S.sound₁ hs

    U : Stays u (after u ds)
    U = after-stays u ds bu S.sound₂ ks

    first-stays : (c : PeerCall) → Handed c → Stays (after t cs) (left (after t cs) c).table
    first-stays c h = call_stays (after t cs) c T.bytes T.sound h

    second-stays : (c : PeerCall) → Handed c → Stays (after u ds) (left (after u ds) c).table
    second-stays c h = call_stays (after u ds) c U.bytes U.sound h

    -- another's call at the first table
    other-first : (c : PeerCall) → Handed c → about a (after t cs) c ≡ false → Isolation t u a (c ∷ cs) ds
    unfolding after
    other-first c h n =
        record {
          answers = other-answers a t c cs n ∙ I.answers;
          left = moved (after t cs) (after u ds) _ (after u ds) a I.left (first-stays c h) (stays-itself (after u ds) U.bytes U.sound)
              (other-keeps (after t cs) a T.bytes T.sound c h n ∙ I.left.peer);
        }

    -- another's call at the second
    other-second : (d : PeerCall) → Handed d → about a (after u ds) d ≡ false → Isolation t u a cs (d ∷ ds)
    unfolding after
    other-second d h n =
        record {
          answers = I.answers ∙ sym (other-answers a u d ds n);
          left = moved (after t cs) (after u ds) (after t cs) _ a I.left (stays-itself (after t cs) T.bytes T.sound) (second-stays d h)
              (I.left.peer ∙ sym (other-keeps (after u ds) a U.bytes U.sound d h n));
        }

    -- the same call about the address at both
    at_both : (c d : PeerCall) → Handed c → about a (after t cs) c ≡ true → about a (after u ds) d ≡ true → reach (after t cs) c ≡ reach (after u ds) d
        → Isolation t u a (c ∷ cs) (d ∷ ds)
    unfolding after
    at_both c d h m n e =
        subst (λ (x : PeerCall). about a (after u ds) x ≡ true → reach (after t cs) c ≡ reach (after u ds) x → Isolation t u a (c ∷ cs) (x ∷ ds))
        (ap (λ (r : Reach). r.call) e) go n e
      where
        go : about a (after u ds) c ≡ true → reach (after t cs) c ≡ reach (after u ds) c → Isolation t u a (c ∷ cs) (c ∷ ds)
        go n e =
            let B = same-call (after t cs) (after u ds) a T.bytes U.bytes la ba I.left c h m n e in
            let x : (left (after t cs) c).answer ≡ (left (after u ds) c).answer = B.answer in
            let y : answers a t cs ≡ answers a u ds = I.answers in
            record {
              answers = about-answers a t c cs m ∙ (rw (x, y)) ∙ sym (about-answers a u c ds n);
              left = moved (after t cs) (after u ds) _ _ a I.left (first-stays c h) (second-stays c h) B.peer;
            }

  -- ISOLATION: from two tables that are the same for an address, two lists of calls in which the same reaches it get it the same answers and leave it the same
  -- record, whatever calls about others the lists have besides
  pub isolation : (cs ds : List PeerCall) → AllHanded cs → AllHanded ds → reaches a t cs ≡ reaches a u ds → Isolation t u a cs ds
  unfolding reaches answers after
  isolation [] [] none none e = record { answers = refl; left = S }
  isolation (c ∷ cs) [] (more h hs) none e = elim (cases (about a (after t cs) c)) [
    | inl m ↦ absurd (some-not-none (sym (about-reaches a t c cs m) ∙ e))
    | inr n ↦ other-first cs [] hs none (isolation cs [] hs none (sym (other-reaches a t c cs n) ∙ e)) c h n
  ]
  isolation [] (d ∷ ds) none (more k ks) e = elim (cases (about a (after u ds) d)) [
    | inl m ↦ absurd (some-not-none (sym (about-reaches a u d ds m) ∙ sym e))
    | inr n ↦ other-second [] ds none ks (isolation [] ds none ks (e ∙ other-reaches a u d ds n)) d k n
  ]
  isolation (c ∷ cs) (d ∷ ds) (more h hs) (more k ks) e = elim (cases (about a (after t cs) c)) [
    | inr n ↦ other-first cs (d ∷ ds) hs (more k ks) (isolation cs (d ∷ ds) hs (more k ks) (sym (other-reaches a t c cs n) ∙ e)) c h n
    | inl m ↦ elim (cases (about a (after u ds) d)) [
      | inr n ↦ other-second (c ∷ cs) ds (more h hs) ks (isolation (c ∷ cs) ds (more h hs) ks (e ∙ other-reaches a u d ds n)) d k n
      | inl n ↦
          let z = same-cons (sym (about-reaches a t c cs m) ∙ e ∙ about-reaches a u d ds n) in
          at_both cs ds hs ks (isolation cs ds hs ks z.1) c d h m n z.0
    ]
  ]

  -- and the writer writes the same of its record
  pub isolation-written : (cs ds : List PeerCall) (sequence : ℕ) (value out : List ℕ) → AllHanded cs → AllHanded ds → reaches a t cs ≡ reaches a u ds
      → writes_record (after t cs) a sequence value out ≡ writes_record (after u ds) a sequence value out
  isolation-written cs ds sequence value out hs ks e = write-record-isolated _ _ a sequence value out (isolation cs ds hs ks e).left

-- what calls about others leave is alike for the address where Open against the threshold and free slots are; one call is the list of it alone
pub others-alike : (t a : List ℕ) (cs : List PeerCall) → Bytes t → length a ≡ 6 → Bytes a → sound t ≡ true → AllHanded cs → reaches a t cs ≡ []
    → crowded (decode_table t).header ≡ crowded (decode_table (after t cs)).header → full (decode_table t) ≡ full (decode_table (after t cs))
    → Alike t (after t cs) a
unfolding reaches after
others-alike t a cs b la ba s hs e c f =
    let S : SameFor t t a = record { sound₁ = s; sound₂ = s; own = refl; groups = refl; width = refl; period = refl; limit = refl; peer = refl } in
    record { same = (isolation t t a b b la ba S [] cs none hs (sym e)).left; crowded = c; full = f }

-- ---- where the lists begin: after two set ups of one form with the same own address, groups, first period and Sync limit the tables are the same for every
-- address, whatever the buffers held, their numbers of slots and their thresholds; a zero and what it stands for are the same

initial-look : (f : Form) (s : Settings) (own a : List ℕ) (n : ℕ) → look (initial_table f s own n) a ≡ no_peer
unfolding look look_by
initial-look f s own a n = go (finds (initial_table f s own n) a)
  where
    go : (x : Option ℕ) → look_by (initial_table f s own n) x ≡ no_peer
    go (Some k) = initial-slot f s own n k
    go None = refl

module _ (size : ℕ) where
  abbrev form : Form
  form = form_of size

  initialized : (t own : List ℕ) (s : Settings) → FitSettings s own → initial_ok form s own (length t) ≡ true
      → decode_table (initializes form t own s).table ≡ initial_table form s own (slots_for form (length t))
  initialized t own s f e = ap decode_table (set-up-leaves size t own s) ∙ initial-decoded form (initial-served size s own (length t) e) s own t f e

  pub initialize-same : (t u own a : List ℕ) (s r : Settings) → FitSettings s own → FitSettings r own → s.count ≡ r.count → s.groups ≡ r.groups
      → period_of s.period ≡ period_of r.period → limit_of s.limit ≡ limit_of r.limit
      → initial_ok form s own (length t) ≡ true → initial_ok form r own (length u) ≡ true → SameFor (initializes form t own s).table (initializes form u own r).table a
  unfolding initial_table initial_header
  initialize-same t u own a s r f g c q p l e i =
      let x = initialized t own s f e in
      let y = initialized u own r g i in
      record {
        sound₁ = (initialize-makes size t own s f e).sound;
        sound₂ = (initialize-makes size u own r g i).sound;
        own = ap (λ (T : Table). T.header.own) x ∙ sym (ap (λ (T : Table). T.header.own) y);
        groups = ap (λ (T : Table). groups_of T.header) x ∙ (rw (c, q)) ∙ sym (ap (λ (T : Table). groups_of T.header) y);
        width = ap (λ (T : Table). width_in T.header) x ∙ sym (ap (λ (T : Table). width_in T.header) y);
        period = ap (λ (T : Table). period_of T.header.settings.period) x ∙ p ∙ sym (ap (λ (T : Table). period_of T.header.settings.period) y);
        limit = ap (λ (T : Table). limit_of T.header.settings.limit) x ∙ l ∙ sym (ap (λ (T : Table). limit_of T.header.settings.limit) y);
        peer = ap (λ (T : Table). look T a) x ∙ initial-look form s own a _ ∙ sym (ap (λ (T : Table). look T a) y ∙ initial-look form r own a _);
      }
