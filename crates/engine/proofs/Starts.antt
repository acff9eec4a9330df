-- What a rule is given, in a slot and without one; a start; a kill; set up.
use mathlib.Core.Path.{◌≡◌, refl, sym, ap, ◌∙◌, subst}
use mathlib.Core.Bool.{Bool, true, false, not, ◌&&◌}
use mathlib.Core.List.{List}
use Prim.Native.Nat.{ℕ, ◌≤◌}
use native.Mathlib.Omega.{arith}
use lib.ListN.{length, replicate}
use borrow.Author.Tests.{eq-eqb, ne_eqb}
use Rattle.octets.specs.Octets.{Bytes}
use Rattle.std.specs.Prelude.{if◌then◌else◌, Option, Some, None, Result, Ok, Err, is_none}
use Rattle.groups.specs.declared.stocked.Stock.{Stock}
use Rattle.groups.specs.Groups.{width, fresh_ok, fresh_of}
use Rattle.groups.specs.Stocked.{commits_in}
use Rattle.record.specs.declared.Peer.{Peer}
use Rattle.record.specs.declared.Header.{Header}
use Rattle.record.specs.declared.Settings.{Settings}
use Rattle.record.specs.Layout.{groups_of, width_in, decode_peer, record_size, no_peer, no_run, period_of, limit_of}
use Rattle.record.proofs.Windows.{no-peer-left}
use Rattle.table.specs.Table.{Table, decode_table, encode_table, recounted, slot, look_by, entry}
use Rattle.record.proofs.Laws.{wide-served}
use Rattle.initial.specs.Initial.{made, initial_ok, initial}
use Rattle.initial.proofs.Initial.{initial-ok-form, initial-recounted}
use Rattle.rules.specs.declared.Clock.{Clock}
use Rattle.rules.specs.declared.Given.{Given}
use Rattle.rules.specs.declared.Said.{Said}
use Rattle.rules.specs.declared.Frames.TheVariants as frames
use Rattle.rules.specs.Book.{has_run, on_start}
use Rattle.rules.specs.Given.{terms, call}
use Rattle.rules.specs.Said.{Does, saying_frames}
use Rattle.rule_laws.proofs.Slots.{start-refused, start-seated}
use Rattle.causes.specs.Causes.{passes}
use Rattle.causes.proofs.Laws.{passed, stopped}
use Rattle.causes.specs.declared.Refusal.{Refusal}
use Rattle.causes.specs.declared.Refusal.TheVariants as why
use Rattle.answers.specs.declared.Answer.{Answer}
use Rattle.answers.specs.Answers.{Report, telling, quiet_answer, Leaves, ends, seating, refused, quiet, answered, finishes, turned}
use Rattle.answers.proofs.Laws.{clashed, full-refused, turned-refused, turned-go}
use Rattle.calls.specs.Calls.{crowded, full, terms_of, clock_of, brings, fresh_in, initializes, admit_start, start_turn, start_step, initiates, kill_turn, kill_step, kills}
use Rattle.engine.specs.InSlot.{Held, Stocks, Lists, given_by, slotless, Clocked, Brought, DoesAt}
use Rattle.engine.proofs.Headers.{held-header, held-places}
use Rattle.engine.proofs.Windows.{look-seat, seat-done}

-- ---- what a rule is given

-- a slot is there, or none is
seat-free : (T : Table) (f : Option ℕ) (k : ℕ) → seating T f ≡ Some k → (is_none f && full T) ≡ false
unfolding seating full
seat-free T (Some j) k e = refl
seat-free T None k e = rw e refl

pub seat-none : (T : Table) (f : Option ℕ) → seating T f ≡ None → (f ≡ None) × ((is_none f && full T) ≡ true)
unfolding seating full
seat-none T (Some j) e = let z : ◌≡◌ {A = ℕ} 0 1 = cc in absurd (omega arith)
seat-none T None e = (refl, rw e refl)

given-terms : (g : Given) (h : Header) (T : Table) (b : Bool) → h ≡ T.header → g.own ≡ h.own → g.crowded ≡ crowded h → g.full ≡ b
    → terms g (groups_of h) ≡ record { own = T.header.own; groups = groups_of T.header; crowded = crowded T.header; full = b }
given-terms g h T b e o c f =
    λ i. record { own = (o ∙ ap (λ (x : Header). x.own) e) i; groups = groups_of (e i); crowded = (c ∙ ap crowded e) i; full = f i }

pub seated-terms : (g : Given) (h : Header) (T : Table) (f : Option ℕ) (k : ℕ) → h ≡ T.header → Brought g h → seating T f ≡ Some k → terms g (groups_of h) ≡ terms_of T f
seated-terms g h T f k e B q = given-terms g h T _ e B.own B.crowded (B.full ∙ sym (seat-free T f k q))

pub unseated-terms : (g : Given) (h : Header) (T : Table) (f : Option ℕ) → h ≡ T.header → Brought g h → seating T f ≡ None → terms (slotless g) (groups_of h) ≡ terms_of T f
unseated-terms g h T f e B q = given-terms (slotless g) h T _ e B.own B.crowded (sym (seat-none T f q).1)

-- what `given_of` shows
pub given-law : (h : Header) (a : List ℕ) (time : ℕ) (expected : List ℕ) (v c : Bool) (κ : Clock) → c ≡ crowded h → κ ≡ clock_of h time
    → ◌≡◌ {A = Given} (record { own = h.own; crowded = c; full = false; address = a; clock = κ; expected = expected; verified = v }) (given_by h a time expected v)
given-law h a time expected v c κ e ek = λ i. record { own = h.own; crowded = e i; full = false; address = a; clock = ek i; expected = expected; verified = v }

pub clock-law : (h : Header) (time p l : ℕ) → p ≡ period_of h.settings.period → l ≡ limit_of h.settings.limit
    → ◌≡◌ {A = Clock} (record { time = time; period = p; limit = l }) (clock_of h time)
clock-law h time p l ep el = λ i. record { time = time; period = ep i; limit = el i }

-- whatever the clock reads, it goes by the header
pub clocked : (h : Header) (time : ℕ) → Clocked (clock_of h time) h
clocked h time = record { period = refl; limit = refl }

pub brought : (h : Header) (a : List ℕ) (time : ℕ) (expected : List ℕ) (v : Bool) → Brought (given_by h a time expected v) h
brought h a time expected v = record { clock = clocked h time; own = refl; crowded = refl; full = refl }

pub given-clocked : (h : Header) (a : List ℕ) (time : ℕ) (expected : List ℕ) (v : Bool) (g : Given) → g ≡ given_by h a time expected v → Clocked g.clock h
given-clocked h a time expected v g e = subst (λ (x : Given). Clocked x.clock h) (sym e) (clocked h time)

-- the clock is the call's, whether a slot is there or not
pub slotless-clocked : (h : Header) (g y : Given) → Brought g h → y ≡ slotless g → Clocked y.clock h
slotless-clocked h g y B e = subst (λ (x : Given). Clocked x.clock h) (sym e) B.clock

-- ---- the state of a run

pub state-there : (T : Table) (f : Option ℕ) (k r : ℕ) → f ≡ Some k → r ≡ (slot T k).run.state → r ≡ (look_by T f).run.state
unfolding look_by
state-there T f k r e q = rw e q

pub state-none : (T : Table) (f : Option ℕ) → f ≡ None → 0 ≡ (look_by T f).run.state
unfolding look_by no_peer no_run
state-none T f e = rw e refl

-- ---- Start: causes 4 and 8

-- the test of the stock, with the width that the code has
pub stock-tested : (h : Header) (fresh : List ℕ) (w : ℕ) (b x : Bool) → w ≡ width_in h → b ≡ fresh_ok w (groups_of h) fresh → not b ≡ x → not (fresh_ok (width_in h) (groups_of h) fresh) ≡ x
stock-tested h fresh w b x ew eb q = ap (λ (W : ℕ). not (fresh_ok W (groups_of h) fresh)) (sym ew) ∙ ap not (sym eb) ∙ q

module _ (t : List ℕ) (h : Header) (f : Option ℕ) (fresh : List ℕ) (w : ℕ) (b : Bool) (eh : h ≡ (decode_table t).header) (ew : w ≡ width_in h) (eb : b ≡ fresh_ok w (groups_of h) fresh) where
  of-table : (x : Bool) → not b ≡ x → not (fresh_ok (width_in (decode_table t).header) (groups_of (decode_table t).header) fresh) ≡ x
  of-table x q = ap (λ (g : Header). not (fresh_ok (width_in g) (groups_of g) fresh)) (sym eh) ∙ stock-tested h fresh w b x ew eb q

  pub start-stock : not b ≡ true → Err why.Fresh ≡ admit_start (decode_table t) f fresh
  unfolding admit_start
  start-stock q = rw (of-table true q) refl

  pub start-running : (n : ℕ) → not b ≡ false → n ≡ (look_by (decode_table t) f).run.state → (n ≡ 0 → ⊥) → Err why.Running ≡ admit_start (decode_table t) f fresh
  unfolding admit_start
  start-running n q e d =
      let y : has_run (look_by (decode_table t) f) ≡ true = rw (ne_eqb _ _ (λ z. d (e ∙ z))) refl in
      rw (of-table false q, y) refl

  pub start-go : (n : ℕ) → not b ≡ false → n ≡ (look_by (decode_table t) f).run.state → n ≡ 0 → Ok f ≡ admit_start (decode_table t) f fresh
  unfolding admit_start
  start-go n q e d =
      let y : has_run (look_by (decode_table t) f) ≡ false = rw (eq-eqb _ _ (sym e ∙ d)) refl in
      rw (of-table false q, y) refl

-- a start that goes on
goes : (T : Table) (f g : Option ℕ) (fresh : List ℕ) → admit_start T f fresh ≡ Ok g → (fresh_ok (width_in T.header) (groups_of T.header) fresh ≡ true) × (f ≡ g)
unfolding admit_start
goes T f g fresh e = go (fresh_ok (width_in T.header) (groups_of T.header) fresh) (has_run (look_by T f)) e
  where
    go : (b v : Bool) → (if not b then Err why.Fresh else if v then Err why.Running else Ok f) ≡ Ok g → (b ≡ true) × (f ≡ g)
    go false v q = clashed q
    go true true q = clashed q
    go true false q = (refl, cc)

-- it has a table, a header and fresh commits
pub stocks : (t : List ℕ) (h : Header) (f : Option ℕ) (fresh : List ℕ) → Held t h f → fresh_ok (width_in (decode_table t).header) (groups_of (decode_table t).header) fresh ≡ true → Stocks h fresh
stocks t h f fresh H e =
    record { header = held-header t h f H; places = held-places t h f H; each = ap (λ (g : Header). fresh_ok (width_in g) (groups_of g) fresh) H.header ∙ e }

pub start-goes : (t : List ℕ) (h : Header) (fresh : List ℕ) (f g : Option ℕ) → Held t h f → admit_start (decode_table t) f fresh ≡ Ok g → Held t h g × Stocks h fresh
start-goes t h fresh f g H e =
    let w = goes (decode_table t) f g fresh e in
    let G = subst (Held t h) w.1 H in
    (G, stocks t h g fresh G w.0)

-- the commits of a stock for the header's groups
pub stock-commits : (s : Stock) (h : Header) (fresh : List ℕ) → s.fresh.now ≡ fresh → Lists s h → commits_in s ≡ fresh_in h fresh
stock-commits s h fresh e L i = fresh_of (L.width i) (e i)

-- what a start with such a stock does
pub stock-starts : (s : Stock) (h : Header) (fresh : List ℕ) (g : Given) (x : Said) (u t : List ℕ) (k : ℕ) (p : Peer) → s.fresh.now ≡ fresh → Lists s h
    → DoesAt x u t k (on_start (terms g s.groups.now) (call g (commits_in s)) p) → DoesAt x u t k (on_start (terms g (groups_of h)) (call g (fresh_in h fresh)) p)
stock-starts s h fresh g x u t k p e L d = subst (DoesAt x u t k) (λ i. on_start (terms g (L.groups i)) (call g (stock-commits s h fresh e L i)) p) d

module _ (t : List ℕ) (h : Header) (f : Option ℕ) (H : Held t h f) (a : List ℕ) (time : ℕ) (fresh : List ℕ) (r : Report) where
  -- the step in the slot, finished
  pub started : (k : ℕ) (g : Option ℕ) (u v : List ℕ) (x : Said) (y : Given) → Bytes t → g ≡ seating (decode_table t) f → g ≡ Some k → y ≡ given_by h a time (replicate 32 0) false
      → DoesAt x u t k (on_start (terms y (groups_of h)) (call y (fresh_in h fresh)) (slot (decode_table t) k))
      → (r ≡ answered x a) × (v ≡ encode_table (recounted (decode_table u))) → Leaves r v (finishes t f (start_step (decode_table t) f a time fresh) a)
  unfolding start_step
  started k g u v x y b p q ey d w =
      let e : seating (decode_table t) f ≡ Some k = sym p ∙ q in
      let T = seated-terms (given_by h a time (replicate 32 0) false) h (decode_table t) f k H.header (brought h a time (replicate 32 0) false) e in
      let P = look-seat t f k b H.seated e in
      seat-done t f k u v a x _ _ r e (start-seated _ _ _ (seat-free (decode_table t) f k e))
      ((λ i. on_start (sym T i) (brings a (clock_of (sym H.header i) time) (fresh_in (sym H.header i) fresh) (replicate 32 0) false) (P i))
      ∙ (λ i. on_start (terms (sym ey i) (groups_of h)) (call (sym ey i) (fresh_in h fresh)) (slot (decode_table t) k))) d w

  pub start-full : (g : Option ℕ) → g ≡ seating (decode_table t) f → g ≡ None → r ≡ refused why.Full → Leaves r t (finishes t f (start_step (decode_table t) f a time fresh) a)
  unfolding start_step
  start-full g p q z = full-refused t a f _ r (start-refused _ _ _ ∙ (seat-none (decode_table t) f (sym p ∙ q)).1) z

-- the call, by what its address came to
module _ (t a : List ℕ) (time : ℕ) (fresh : List ℕ) (r : Report) where
  pub initiate-unentered : (c : Refusal) → entry t a ≡ Err c → r ≡ refused c → Leaves r t (initiates t a time fresh)
  unfolding initiates start_turn
  initiate-unentered c e z = turned-refused _ _ t a (Err c) (sym (ap (λ (y : Result (Option ℕ) Refusal). start_turn y t fresh) e)) r c refl z

  module _ (f : Option ℕ) (E : entry t a ≡ Ok f) (w : Result (Option ℕ) Refusal) (ew : w ≡ admit_start (decode_table t) f fresh) where
    turn_is : w ≡ start_turn (entry t a) t fresh
    unfolding start_turn
    turn_is = ew ∙ ap (λ (y : Result (Option ℕ) Refusal). start_turn y t fresh) (sym E)

    pub initiate-refused : (c : Refusal) → w ≡ Err c → r ≡ refused c → Leaves r t (initiates t a time fresh)
    unfolding initiates
    initiate-refused c q z = turned-refused _ _ t a w turn_is r c q z

    pub initiate-went : (g : Option ℕ) (u : List ℕ) → w ≡ Ok g → Leaves r u (finishes t g (start_step (decode_table t) g a time fresh) a) → Leaves r u (initiates t a time fresh)
    unfolding initiates
    initiate-went g u q l = turned-go _ _ t a w turn_is r g _ u q refl l

-- ---- Kill

pub killed : (w : ℕ) (y : List ℕ) (n : ℕ) (x : Said) → w ≤ width → n ≡ record_size w → y ≡ replicate n 0 → x ≡ saying_frames frames.None → Does w x y kill_step
unfolding kill_step
killed w y n x m h e q = record { leaves = ap (decode_peer w) e ∙ no-peer-left w n m h; says = q }

pub kill-seated : kill_step.refused ≡ false
unfolding kill_step
kill-seated = refl

-- the call, by what its address came to
module _ (t a : List ℕ) (r : Report) where
  kills-by : (x : Result (Option ℕ) Refusal) → entry t a ≡ x → kills t a ≡ turned (kill_turn x) (λ f. kill_step) t a
  unfolding kills
  kills-by x e = ap (λ (y : Result (Option ℕ) Refusal). turned (kill_turn y) (λ f. kill_step) t a) e

  pub kill-refused : (x : Result (Option ℕ) Refusal) (c : Refusal) → entry t a ≡ x → kill_turn x ≡ Err c → r ≡ refused c → Leaves r t (kills t a)
  unfolding turned
  kill-refused x c e k er =
      let z : kills t a ≡ record { answer = refused c; table = t } = kills-by x e ∙ ap (λ (w : Result (Option ℕ) Refusal). turned w (λ f. kill_step) t a) k in
      subst (Leaves r t) (sym z) (record { answer = er; table = refl })

  pub kill-unentered : (c : Refusal) → entry t a ≡ Err c → r ≡ refused c → Leaves r t (kills t a)
  unfolding kill_turn
  kill-unentered c e er = kill-refused (Err c) c e refl er

  pub kill-absent : (f : Option ℕ) → entry t a ≡ Ok f → f ≡ None → r ≡ refused why.NoRecord → Leaves r t (kills t a)
  unfolding kill_turn
  kill-absent f e n er = kill-refused (Ok None) why.NoRecord (e ∙ ap Ok n) refl er

  pub kill-freed : (f : Option ℕ) (k : ℕ) (u : List ℕ) → entry t a ≡ Ok f → f ≡ Some k → Leaves r u (finishes t (Some k) kill_step a) → Leaves r u (kills t a)
  unfolding turned kill_turn
  kill-freed f k u e s l = subst (Leaves r u) (sym (kills-by (Ok (Some k)) (e ∙ ap Ok s))) l

-- ---- Set up

pub quiet-told : (own : List ℕ) (a : Answer) → a ≡ quiet_answer own → telling a ≡ quiet own
unfolding quiet
quiet-told own a e = ap telling e

module _ (t own u : List ℕ) (s : Settings) (w : Result (Unit {0}) Refusal) (r : Report) (ew : w ≡ passes (initial_ok made s own (length t)) why.Settings) (eu : u ≡ initial made s own t) where
  pub initialize-done : (x : Unit {0}) → w ≡ Ok x → r ≡ quiet own → Leaves r u (initializes made t own s)
  unfolding initializes initial ends
  initialize-done x q er =
      let z : initial_ok made s own (length t) ≡ true = passed _ _ x (sym ew ∙ q) in
      let n = initial-recounted made wide-served s own (length t) (initial-ok-form made s own (length t) z) in
      rw z (record { answer = er; table = eu ∙ rw z (ap encode_table (sym n)) })

  pub initialize-refused : (c : Refusal) → w ≡ Err c → r ≡ refused c → Leaves r u (initializes made t own s)
  unfolding initializes initial
  initialize-refused c q er =
      let z = stopped (initial_ok made s own (length t)) why.Settings c (sym ew ∙ q) in
      rw z.0 (record { answer = er ∙ ap refused z.1; table = eu ∙ rw z.0 refl })
