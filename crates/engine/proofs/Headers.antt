-- What was loaded and tested once: the header's groups and slots, the fresh commits, and what an address came to.
use Rattle.std.specs.Prelude.{Option, Some, None, Result, Ok}
use mathlib.Core.Path.{◌≡◌, refl, sym, ap, ◌∙◌, subst}
use mathlib.Core.Logic.{◌⊎◌, inl, inr}
use mathlib.Core.Bool.{Bool, true}
use mathlib.Core.List.{List}
use Prim.Native.Nat.{ℕ, ◌+◌, ◌-◌, ◌*◌, ◌^◌, ◌≤◌, ◌<◌}
use native.Mathlib.Nat.{lt_of_le_of_lt, mul-le-mul}
use native.Mathlib.Omega.{arith}
use native.Mathlib.Decide.{ℕ_discrete}
use lib.Dec.{lit<}
use lib.ListN.{length, take, drop, replicate, length-replicate}
use lib.Pow.{pow_mono}
use lib.Seq.{length-take-le}
use Rattle.octets.specs.Octets.{Bytes}
use Rattle.groups.specs.Groups.{width, fresh_ok}
use Rattle.groups.proofs.Laws.{take-zeros}
use Rattle.groups.proofs.Fresh.{fresh-length}
use Rattle.record.specs.declared.Header.{Header}
use Rattle.record.specs.declared.Peer.{Peer}
use Rattle.record.specs.declared.Run.{Run}
use Rattle.record.specs.Layout.{groups_of, width_in, decode_peer, decode_header, header_of, record_size, record_at, wide, no_peer, no_run, limit_of}
use Rattle.record.proofs.Laws.{ShapeRun, ShapePeer, shape-peer, form-width}
use Rattle.record.proofs.Windows.{no-peer-left}
use Rattle.soundness.specs.Soundness.{header_ok, high_sync, run_ok, peer_ok}
use Rattle.soundness.proofs.Laws.{header-form, settings-form, period-range, limit-range, header-groups, header-width, header-count, run-states, run-is-committed, run-is-confirmed, run-unused, peer-in-use, peer-unused}
use Rattle.table.specs.Table as table
use Rattle.table.specs.Table.{decode_table, slots, slot, sound, entry, Reached, Sized, Enters}
use Rattle.table.specs.declared.Entrance.{Entrance}
use Rattle.table.proofs.Laws.{entry-found, sound-header, sound-peer, sound-whole, peers-held, sized, reached}
use Rattle.table.proofs.Fit.{fit-slot, fit-decoded}
use Rattle.table.proofs.Octets.{window-law, window-length}
use Rattle.rules.specs.declared.Clock.{Clock}
use Rattle.rules.specs.Given.{Paced, Whole}
use Rattle.answers.specs.Answers.{Seated, seating}
use Rattle.answers.proofs.Laws.{came, entered-seated, seated-ready}
use Rattle.engine.specs.InSlot.{Held, Clocked}
use Rattle.causes.specs.declared.Refusal.{Refusal}

-- ---- the listed groups

pub few-counted : (h : Header) → header_ok h ≡ true → h.settings.count ≤ 3
few-counted h ok = omega (arith, header-count h ok)

module _ (h : Header) (ok : header_ok h ≡ true) (three : length h.settings.groups ≡ 3) where
  pub count_fits : h.settings.count ≤ length h.settings.groups
  count_fits = omega (arith, three, header-count h ok)

  pub listed-count : h.settings.count ≡ length (take h.settings.count h.settings.groups)
  listed-count = sym (length-take-le h.settings.count h.settings.groups count_fits)

  module _ (w : ℕ) (ew : w ≡ width_in h) where
    -- what the test of the stock asks
    pub stock-asks : w ≤ width → (1 ≤ w) × ((w ≤ width) × (length (groups_of h) ≤ 8))
    stock-asks m = (omega (arith, ew, header-width h ok), (m, omega (arith, listed-count, header-count h ok)))

    -- what a stock is: some groups and few, and a fresh commit for each
    pub stock-wide : 1 ≤ w
    stock-wide = omega (arith, ew, header-width h ok)

    pub stock-some : 1 ≤ length (groups_of h)
    stock-some = omega (arith, listed-count, (header-groups h ok).some)

    pub stock-few : length (groups_of h) ≤ 8
    stock-few = omega (arith, listed-count, header-count h ok)

    pub stock-each : (fresh : List ℕ) → fresh_ok (width_in h) (groups_of h) fresh ≡ true → length fresh ≡ w * length (groups_of h)
    stock-each fresh e = fresh-length w (groups_of h) fresh (ap (λ (W : ℕ). fresh_ok W (groups_of h) fresh) ew ∙ e)

    -- the width has room for every scalar
    pub stock-scalars : 66 ≤ w
    stock-scalars = omega (arith, ew, header-width h ok)

-- the same of the slice in which they are lent
module _ (w : ℕ) (gs hs fresh : List ℕ) (e : gs ≡ hs) where
  pub listed-asks : (1 ≤ w) × ((w ≤ width) × (length hs ≤ 8)) → (1 ≤ w) × ((w ≤ width) × (length gs ≤ 8))
  listed-asks a = subst (λ (l : List ℕ). (1 ≤ w) × ((w ≤ width) × (length l ≤ 8))) (sym e) a

  pub listed-fresh : (b : Bool) → b ≡ fresh_ok w gs fresh → b ≡ fresh_ok w hs fresh
  listed-fresh b q = q ∙ ap (λ (l : List ℕ). fresh_ok w l fresh) e

-- ---- where the record is

module _ (t : List ℕ) (h : Header) (f : Option ℕ) (H : Held t h f) where
  pub held-header : header_ok h ≡ true
  held-header = ap header_ok H.header ∙ sound-header t H.seated.whole

  pub held-places : length h.settings.groups ≡ 3
  unfolding decode_table decode_header header_of
  held-places = ap (λ (x : Header). length x.settings.groups) H.header

  pub held-sized : (w : ℕ) → (w ≡ width_in h) × (w ≤ width) → Sized t w h.geometry.slots
  held-sized w e = sized t h w H.seated.whole H.header e.0 e.1

-- a slot of it
pub held_at : (t : List ℕ) (h : Header) (f : Option ℕ) (k : ℕ) → Held t h f → seating (decode_table t) f ≡ Some k → Held t h (Some k)
held_at t h f k H e =
    record {
      seated = record { whole = H.seated.whole; below = λ j z. let y : k ≡ j = cc in subst (λ (i : ℕ). i < slots (decode_table t)) y (seated-ready t f k H.seated e).below };
      header = H.header;
    }

pub held-ready : (t : List ℕ) (h : Header) (k : ℕ) → Held t h (Some k) → table.Ready t k
unfolding seating
held-ready t h k H = seated-ready t (Some k) k H.seated refl

pub held-reached : (t : List ℕ) (h : Header) (k : ℕ) → Held t h (Some k) → (w : ℕ) → (w ≡ width_in h) × (w ≤ width) → Reached t w k
held-reached t h k H w e = reached t h w k H.seated.whole H.header e.0 e.1 (H.seated.below k refl)

-- what was entered
pub entered-held : (t a : List ℕ) (e : Entrance) → Enters e t a → Held t e.header e.slot
entered-held t a e E = record { seated = entered-seated t a e.slot (came t a e.slot E.entry); header = E.looked.header }

-- ---- the clock: the longest delay that settings have, 1,000 × 2^11 ms, fits

range-paced : (κ : Clock) → κ.period ≤ 1000 → κ.limit ≤ 10 → Paced κ
range-paced κ p l =
    let high : κ.limit + 1 ≤ 11 = omega (arith, l) in
    let most : κ.period * 2 ^ (κ.limit + 1) ≤ 1000 * 2 ^ 11 = mul-le-mul p (pow_mono high) in
    record { few = omega (arith, l); fits = lt_of_le_of_lt most (lit< tt) }

pub paced : (κ : Clock) (h : Header) → header_ok h ≡ true → Clocked κ h → Paced κ
paced κ h ok c =
    let s = settings-form _ h.settings (header-form h ok).settings in
    range-paced κ (omega (arith, c.period, (period-range _ s.period).1)) (omega (arith, c.limit, (limit-range _ s.limit).1))

-- ---- the record's octets: Sync and Sc are in their range

abbrev InRange : ℕ → Run → Type 0
InRange high r = (r.sync ≤ high) × (r.sc ≤ high + 1)

run-range : (gs : List ℕ) (high : ℕ) (r : Run) → ShapeRun width r → run_ok gs high r ≡ true → InRange high r
unfolding no_run
run-range gs high r h e = go (run-states gs high r e)
  where
    go : (r.state ≡ 0) ⊎ ((r.state ≡ 1) ⊎ (r.state ≡ 2)) → InRange high r
    go (inl z) = let q : r ≡ no_run = run-unused gs high r h e z in (rw q (omega arith), rw q (omega arith))
    go (inr (inl z)) = let c = run-is-committed gs high r z e in (c.sync, omega (arith, c.sc))
    go (inr (inr z)) = let c = run-is-confirmed gs high r z e in (c.sync, omega (arith, c.sc, c.sync))

free-range : (high : ℕ) → InRange high no_peer.run
unfolding no_peer no_run
free-range high = (omega arith, omega arith)

peer-range : (own gs : List ℕ) (high : ℕ) (p : Peer) → ShapePeer width p → peer_ok own gs high p ≡ true → InRange high p.run
peer-range own gs high p h e = elim (ℕ_discrete p.used 0) [
  | yes z ↦ subst (λ (q : Peer). InRange high q.run) (sym (peer-unused own gs high p h e z)) (free-range high)
  | no d ↦ run-range gs high p.run h.run (peer-in-use own gs high p d e).run
]

slot-range : (t : List ℕ) (k : ℕ) → Bytes t → Seated t (Some k) → InRange (high_sync (decode_table t).header) (slot (decode_table t) k).run
slot-range t k b S =
    let w = S.whole in
    let l = S.below k refl in
    let lk : k < length (decode_table t).peers = omega (arith, peers-held t (slots (decode_table t)) (sound-whole t w), l) in
    peer-range _ _ _ (slot (decode_table t) k) (shape-peer (fit-slot (decode_table t) k (fit-decoded t _ b (sound-whole t w)) lk)) (sound-peer t w k l)

-- the octets of a slot, as they are lent: its place and size as the code works them out
abbrev pub window : List ℕ → ℕ → ℕ → List ℕ
window t a n = take (a + n - a) (drop a t)

module _ (t : List ℕ) (h : Header) (k : ℕ) (H : Held t h (Some k)) (w : ℕ) (ew : (w ≡ width_in h) × (w ≤ width)) (a n : ℕ) (ea : a ≡ record_at w k) (en : n ≡ record_size w) where
  pub window-is : decode_peer w (window t a n) ≡ slot (decode_table t) k
  window-is = window-law t w k a (held-reached t h k H w ew) ea n en

  pub window-whole : (κ : Clock) → Bytes t → Clocked κ h → Whole κ w (window t a n)
  window-whole κ b c =
      let e : κ.limit ≡ limit_of (decode_table t).header.settings.limit = c.limit ∙ ap (λ (x : Header). limit_of x.settings.limit) H.header in
      let r = subst (λ (p : Peer). InRange (high_sync (decode_table t).header) p.run) (sym window-is) (slot-range t k b H.seated) in
      record {
        paced = paced κ h (held-header t h (Some k) H) c;
        most = ew.1;
        size = window-length t w k a (held-reached t h k H w ew) ea n en;
        sync = omega (arith, e, r.0);
        sc = omega (arith, e, r.1);
      }

-- a free record outside the table: as many zeros as a record has octets, of those that serve the largest
module _ (w : ℕ) (most : w ≤ width) (n : ℕ) (en : n ≡ record_size w) where
  abbrev blank : List ℕ
  blank = take n (replicate wide.size 0)

  pub blank-fits : n ≤ wide.size
  blank-fits = omega (arith, most, en)

  blank-zeros : blank ≡ replicate n 0
  blank-zeros = take-zeros n wide.size blank-fits

  pub blank-length : n ≡ length blank
  blank-length = sym (ap length blank-zeros ∙ length-replicate {A = ℕ} n 0)

  pub blank-free : decode_peer w blank ≡ no_peer
  blank-free = ap (decode_peer w) blank-zeros ∙ no-peer-left w n most en

  pub blank-whole : (κ : Clock) → Paced κ → Whole κ w blank
  blank-whole κ c =
      let r = subst (λ (p : Peer). InRange (κ.limit + 1) p.run) (sym blank-free) (free-range (κ.limit + 1)) in
      record { paced = c; most = most; size = sym blank-length ∙ en; sync = r.0; sc = omega (arith, r.1) }
