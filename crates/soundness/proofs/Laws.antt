-- The form as facts, both ways, and what an unused part holds.
use mathlib.Core.Path.{◌≡◌, refl, sym, ap, ◌∙◌, subst}
use mathlib.Core.Logic.{◌⊎◌, inl, inr}
use mathlib.Core.Bool.{Bool, true, false, not, ◌&&◌, ◌||◌}
use mathlib.Core.List.{List, [], ◌∷◌}
use Prim.Native.Nat.{ℕ, ◌+◌, ◌^◌, ◌≤◌, ◌<◌}
use native.Mathlib.Omega.{arith}
use native.Mathlib.Decide.{ℕ_discrete}
use lib.Dec.{eqb, leb, ltb, lit≤}
use lib.ListN.{length, take, drop}
use lib.Seq.{length-take-le}
use borrow.Author.Tests.{eq-eqb, ne_eqb, eqb-true, le-leb, leb-true, lt-ltb, ltb-true, not-true}
use Rattle.octets.specs.Octets.{all_zero}
use Rattle.std.specs.Prelude.{if◌then◌else◌}
use Rattle.octets.proofs.Scan.{clash, and_left, and_right, and_both}
use Rattle.octets.proofs.Tests.{zero-zeros}
use Rattle.groups.specs.Groups.{width, known, listable, listed, marked, index_of}
use Rattle.groups.proofs.Laws.{listable-known, listable-narrow, listable-wide}
use Rattle.record.specs.Layout.{run_size, link_size, record_size, no_run, no_link, no_peer, form_of, form_in, width_in, groups_of, counted, factory_period, factory_limit, period_of, limit_of}
use Rattle.record.specs.declared.Form.{Form}
use Rattle.record.specs.declared.Run.{Run}
use Rattle.record.specs.declared.Link.{Link}
use Rattle.record.specs.declared.Peer.{Peer}
use Rattle.record.specs.declared.Geometry.{Geometry}
use Rattle.record.specs.declared.Counts.{Counts}
use Rattle.record.specs.declared.Settings.{Settings}
use Rattle.record.specs.declared.Header.{Header}
use Rattle.record.proofs.Laws.{ShapeRun, ShapeLink, ShapePeer, zero-run, zero-link, zero-peer, zeros-run, zeros-link, zeros-peer, FormOf, is_narrow, is_wide, is_none, form-of, Served, form-served, form-groups, form-slots}
use Rattle.soundness.specs.Soundness.{own_ok, usable, all_listable, each_once, groups_ok, period_ok, limit_ok, settings_ok, geometry_ok, header_ok, high_sync, commit_ok, token_ok, rejected_ok, committed_ok, confirmed_ok, run_ok, finished_ok, link_ok, free_ok, in_use_ok, peer_ok, bounds_ok}

-- ---- unused parts

-- no run, no link, a free slot have the form
pub no-run-ok : (gs : List ℕ) (high : ℕ) → run_ok gs high no_run ≡ true
unfolding run_ok no_run
no-run-ok gs high = ap all_zero (zero-run width (lit≤ tt)) ∙ zero-zeros (run_size width)

pub no-link-ok : (gs : List ℕ) (high : ℕ) → link_ok gs high no_link ≡ true
unfolding link_ok no_link
no-link-ok gs high = ap all_zero (zero-link width (lit≤ tt)) ∙ zero-zeros (link_size width)

pub no-peer-ok : (own gs : List ℕ) (high : ℕ) → peer_ok own gs high no_peer ≡ true
unfolding peer_ok no_peer free_ok
no-peer-ok own gs high = ap all_zero (zero-peer width (lit≤ tt)) ∙ zero-zeros (record_size width)

-- and nothing else is unused
pub run-unused : (gs : List ℕ) (high : ℕ) (r : Run) → ShapeRun width r → run_ok gs high r ≡ true → r.state ≡ 0 → r ≡ no_run
unfolding run_ok
run-unused gs high r f ok e = zeros-run r f (rw (eq-eqb r.state 0 e) at ok)

pub link-unused : (gs : List ℕ) (high : ℕ) (l : Link) → ShapeLink width l → link_ok gs high l ≡ true → l.finished ≡ 0 → l ≡ no_link
unfolding link_ok
link-unused gs high l f ok e = zeros-link l f (rw (eq-eqb l.finished 0 e) at ok)

pub peer-unused : (own gs : List ℕ) (high : ℕ) (p : Peer) → ShapePeer width p → peer_ok own gs high p ≡ true → p.used ≡ 0 → p ≡ no_peer
unfolding peer_ok free_ok
peer-unused own gs high p f ok e = zeros-peer p f (rw (eq-eqb p.used 0 e) at ok)

-- ---- the run

pub record Token (r : Run) : Type 0 where
  pub short : r.toklen ≤ 256
  pub rest : all_zero (drop r.toklen r.token) ≡ true

pub record Committed (gs : List ℕ) (high : ℕ) (r : Run) : Type 0 where
  pub sync : r.sync ≤ high
  pub below : r.rejected < 2 ^ length gs
  pub clear : marked r.rejected (index_of gs r.group) ≡ false
  pub sc : r.sc ≡ 0
  pub listed : listed gs r.group ≡ true
  pub token : Token r
  pub own : commit_ok r.group r.own ≡ true
  pub peer : all_zero r.peer ≡ true

pub record Confirmed (gs : List ℕ) (high : ℕ) (r : Run) : Type 0 where
  pub sync : r.sync ≤ high
  pub rejected : r.rejected ≡ 0
  pub sc : r.sc ≡ r.sync + 1
  pub listed : listed gs r.group ≡ true
  pub token : Token r
  pub own : commit_ok r.group r.own ≡ true
  pub peer : commit_ok r.group r.peer ≡ true

is-not : (b : Bool) → b ≡ false → not b ≡ true
is-not b e = rw e

token-form : (r : Run) → token_ok r ≡ true → Token r
unfolding token_ok
token-form r ok = record { short = leb-true _ _ (and_left _ _ ok); rest = and_right (leb r.toklen 256) _ ok }

form-token : (r : Run) → Token r → token_ok r ≡ true
unfolding token_ok
form-token r f = and_both _ _ (le-leb _ _ f.short) f.rest

pub committed-form : (gs : List ℕ) (high : ℕ) (r : Run) → committed_ok gs high r ≡ true → Committed gs high r
unfolding committed_ok rejected_ok
committed-form gs high r ok =
    let k₁ = and_right (leb r.sync high) _ ok in
    let j = and_left _ _ k₁ in
    let k₂ = and_right (rejected_ok gs r) _ k₁ in
    let k₃ = and_right (eqb r.sc 0) _ k₂ in
    let k₄ = and_right (listed gs r.group) _ k₃ in
    let k₅ = and_right (token_ok r) _ k₄ in
    record {
      sync = leb-true _ _ (and_left _ _ ok);
      below = ltb-true _ _ (and_left _ _ j);
      clear = not-true _ (and_right (ltb r.rejected (2 ^ length gs)) _ j);
      sc = eqb-true _ _ (and_left _ _ k₂);
      listed = and_left _ _ k₃;
      token = token-form r (and_left _ _ k₄);
      own = and_left _ _ k₅;
      peer = and_right (commit_ok r.group r.own) _ k₅;
    }

pub form-committed : (gs : List ℕ) (high : ℕ) (r : Run) → Committed gs high r → committed_ok gs high r ≡ true
unfolding committed_ok rejected_ok
form-committed gs high r f =
    and_both _ _ (le-leb _ _ f.sync) (and_both _ _ (and_both _ _ (lt-ltb _ _ f.below) (is-not _ f.clear))
    (and_both _ _ (eq-eqb _ _ f.sc) (and_both _ _ f.listed (and_both _ _ (form-token r f.token) (and_both _ _ f.own f.peer)))))

pub confirmed-form : (gs : List ℕ) (high : ℕ) (r : Run) → confirmed_ok gs high r ≡ true → Confirmed gs high r
unfolding confirmed_ok
confirmed-form gs high r ok =
    let k₁ = and_right (leb r.sync high) _ ok in
    let k₂ = and_right (eqb r.rejected 0) _ k₁ in
    let k₃ = and_right (eqb r.sc (r.sync + 1)) _ k₂ in
    let k₄ = and_right (listed gs r.group) _ k₃ in
    let k₅ = and_right (token_ok r) _ k₄ in
    record {
      sync = leb-true _ _ (and_left _ _ ok);
      rejected = eqb-true _ _ (and_left _ _ k₁);
      sc = eqb-true _ _ (and_left _ _ k₂);
      listed = and_left _ _ k₃;
      token = token-form r (and_left _ _ k₄);
      own = and_left _ _ k₅;
      peer = and_right (commit_ok r.group r.own) _ k₅;
    }

pub form-confirmed : (gs : List ℕ) (high : ℕ) (r : Run) → Confirmed gs high r → confirmed_ok gs high r ≡ true
unfolding confirmed_ok
form-confirmed gs high r f =
    and_both _ _ (le-leb _ _ f.sync) (and_both _ _ (eq-eqb _ _ f.rejected) (and_both _ _ (eq-eqb _ _ f.sc)
    (and_both _ _ f.listed (and_both _ _ (form-token r f.token) (and_both _ _ f.own f.peer)))))

-- the run by its state
pub run-is-committed : (gs : List ℕ) (high : ℕ) (r : Run) → r.state ≡ 1 → run_ok gs high r ≡ true → Committed gs high r
unfolding run_ok
run-is-committed gs high r e ok = committed-form gs high r (rw (ne_eqb r.state 0 (λ z. omega arith), eq-eqb r.state 1 e) at ok)

pub committed-is-run : (gs : List ℕ) (high : ℕ) (r : Run) → r.state ≡ 1 → Committed gs high r → run_ok gs high r ≡ true
unfolding run_ok
committed-is-run gs high r e f = rw (ne_eqb r.state 0 (λ z. omega arith), eq-eqb r.state 1 e) (form-committed gs high r f)

pub run-is-confirmed : (gs : List ℕ) (high : ℕ) (r : Run) → r.state ≡ 2 → run_ok gs high r ≡ true → Confirmed gs high r
unfolding run_ok
run-is-confirmed gs high r e ok = confirmed-form gs high r (rw (ne_eqb r.state 0 (λ z. omega arith), ne_eqb r.state 1 (λ z. omega arith), eq-eqb r.state 2 e) at ok)

pub confirmed-is-run : (gs : List ℕ) (high : ℕ) (r : Run) → r.state ≡ 2 → Confirmed gs high r → run_ok gs high r ≡ true
unfolding run_ok
confirmed-is-run gs high r e f = rw (ne_eqb r.state 0 (λ z. omega arith), ne_eqb r.state 1 (λ z. omega arith), eq-eqb r.state 2 e) (form-confirmed gs high r f)

-- no other state
pub run-states : (gs : List ℕ) (high : ℕ) (r : Run) → run_ok gs high r ≡ true → (r.state ≡ 0) ⊎ ((r.state ≡ 1) ⊎ (r.state ≡ 2))
unfolding run_ok
run-states gs high r ok = elim (ℕ_discrete r.state 0) [
  | yes e ↦ inl e
  | no d ↦ elim (ℕ_discrete r.state 1) [
    | yes e ↦ inr (inl e)
    | no d₁ ↦ elim (ℕ_discrete r.state 2) [
      | yes e ↦ inr (inr e)
      | no d₂ ↦ absurd (clash ok (rw (ne_eqb r.state 0 d, ne_eqb r.state 1 d₁, ne_eqb r.state 2 d₂) refl))
    ]
  ]
]

-- ---- the link

pub record Finished (gs : List ℕ) (high : ℕ) (l : Link) : Type 0 where
  pub finished : l.finished ≡ 1
  pub superseded : l.superseded ≤ 1
  pub sync : l.sync ≤ high
  pub spare : l.spare ≡ 0
  pub listed : listed gs l.group ≡ true
  pub own : commit_ok l.group l.own ≡ true
  pub peer : commit_ok l.group l.peer ≡ true

pub finished-form : (gs : List ℕ) (high : ℕ) (l : Link) → finished_ok gs high l ≡ true → Finished gs high l
unfolding finished_ok
finished-form gs high l ok =
    let k₁ = and_right (eqb l.finished 1) _ ok in
    let k₂ = and_right (leb l.superseded 1) _ k₁ in
    let k₃ = and_right (leb l.sync high) _ k₂ in
    let k₄ = and_right (eqb l.spare 0) _ k₃ in
    let k₅ = and_right (listed gs l.group) _ k₄ in
    record {
      finished = eqb-true _ _ (and_left _ _ ok);
      superseded = leb-true _ _ (and_left _ _ k₁);
      sync = leb-true _ _ (and_left _ _ k₂);
      spare = eqb-true _ _ (and_left _ _ k₃);
      listed = and_left _ _ k₄;
      own = and_left _ _ k₅;
      peer = and_right (commit_ok l.group l.own) _ k₅;
    }

pub form-finished : (gs : List ℕ) (high : ℕ) (l : Link) → Finished gs high l → finished_ok gs high l ≡ true
unfolding finished_ok
form-finished gs high l f =
    and_both _ _ (eq-eqb _ _ f.finished) (and_both _ _ (le-leb _ _ f.superseded) (and_both _ _ (le-leb _ _ f.sync) (and_both _ _ (eq-eqb _ _ f.spare)
    (and_both _ _ f.listed (and_both _ _ f.own f.peer)))))

pub link-is-finished : (gs : List ℕ) (high : ℕ) (l : Link) → (l.finished ≡ 0 → ⊥) → link_ok gs high l ≡ true → Finished gs high l
unfolding link_ok
link-is-finished gs high l d ok = finished-form gs high l (rw (ne_eqb l.finished 0 d) at ok)

pub finished-is-link : (gs : List ℕ) (high : ℕ) (l : Link) → Finished gs high l → link_ok gs high l ≡ true
unfolding link_ok
finished-is-link gs high l f = rw (ne_eqb l.finished 0 (λ e. omega (arith, f.finished))) (form-finished gs high l f)

-- ---- the record in use

pub record InUse (own gs : List ℕ) (high : ℕ) (p : Peer) : Type 0 where
  pub used : p.used ≡ 1
  pub usable : usable own p.address ≡ true
  pub run : run_ok gs high p.run ≡ true
  pub link : link_ok gs high p.link ≡ true
  pub some : (not (eqb p.run.state 0) || not (eqb p.link.finished 0)) ≡ true

pub in-use-form : (own gs : List ℕ) (high : ℕ) (p : Peer) → in_use_ok own gs high p ≡ true → InUse own gs high p
unfolding in_use_ok
in-use-form own gs high p ok =
    let k₁ = and_right (eqb p.used 1) _ ok in
    let k₂ = and_right (usable own p.address) _ k₁ in
    let k₃ = and_right (run_ok gs high p.run) _ k₂ in
    record { used = eqb-true _ _ (and_left _ _ ok); usable = and_left _ _ k₁; run = and_left _ _ k₂; link = and_left _ _ k₃; some = and_right (link_ok gs high p.link) _ k₃ }

pub form-in-use : (own gs : List ℕ) (high : ℕ) (p : Peer) → InUse own gs high p → in_use_ok own gs high p ≡ true
unfolding in_use_ok
form-in-use own gs high p f =
    and_both _ _ (eq-eqb _ _ f.used) (and_both _ _ f.usable (and_both _ _ f.run (and_both _ _ f.link f.some)))

pub peer-in-use : (own gs : List ℕ) (high : ℕ) (p : Peer) → (p.used ≡ 0 → ⊥) → peer_ok own gs high p ≡ true → InUse own gs high p
unfolding peer_ok
peer-in-use own gs high p d ok = in-use-form own gs high p (rw (ne_eqb p.used 0 d) at ok)

pub in-use-peer : (own gs : List ℕ) (high : ℕ) (p : Peer) → InUse own gs high p → peer_ok own gs high p ≡ true
unfolding peer_ok
in-use-peer own gs high p f = rw (ne_eqb p.used 0 (λ e. omega (arith, f.used))) (form-in-use own gs high p f)

-- ---- the groups and the header

pub record Groups (f : Form) (n : ℕ) (gs : List ℕ) : Type 0 where
  pub some : 1 ≤ n
  pub few : n ≤ f.groups
  pub listable : all_listable f.width (take n gs) ≡ true
  pub once : each_once (take n gs) ≡ true
  pub rest : all_zero (drop n gs) ≡ true

pub groups-form : (f : Form) (n : ℕ) (gs : List ℕ) → groups_ok f n gs ≡ true → Groups f n gs
unfolding groups_ok
groups-form f n gs ok =
    let k₁ = and_right (leb 1 n) _ ok in
    let k₂ = and_right (leb n f.groups) _ k₁ in
    let k₃ = and_right (all_listable f.width (take n gs)) _ k₂ in
    record { some = leb-true _ _ (and_left _ _ ok); few = leb-true _ _ (and_left _ _ k₁); listable = and_left _ _ k₂; once = and_left _ _ k₃; rest = and_right (each_once (take n gs)) _ k₃ }

pub form-groups-ok : (f : Form) (n : ℕ) (gs : List ℕ) → Groups f n gs → groups_ok f n gs ≡ true
unfolding groups_ok
form-groups-ok f n gs g = and_both _ _ (le-leb _ _ g.some) (and_both _ _ (le-leb _ _ g.few) (and_both _ _ g.listable (and_both _ _ g.once g.rest)))

-- a list of one to three groups
pub groups-length : (f : Form) (n : ℕ) (gs : List ℕ) → f.groups ≤ 3 → length gs ≡ 3 → groups_ok f n gs ≡ true → length (take n gs) ≡ n
groups-length f n gs h l ok = let g = groups-form f n gs ok in length-take-le n gs (omega (arith, g.few))

-- a listed group is a listable one
pub listed-listable : (W : ℕ) (gs : List ℕ) (g : ℕ) → all_listable W gs ≡ true → listed gs g ≡ true → listable W g ≡ true
unfolding all_listable listed
listed-listable W [] g a l = absurd (clash l refl)
listed-listable W (x ∷ gs) g a l = go (eqb x g) refl l (λ m. listed-listable W gs g (and_right (listable W x) _ a) m)
  where
    go : (b : Bool) → eqb x g ≡ b → (b || listed gs g) ≡ true → (listed gs g ≡ true → listable W g ≡ true) → listable W g ≡ true
    go true e m ih = subst (λ (y : ℕ). listable W y ≡ true) (eqb-true x g e) (and_left (listable W x) _ a)
    go false e m ih = ih m

pub record SettingsForm (f : Form) (s : Settings) : Type 0 where
  pub groups : groups_ok f s.count s.groups ≡ true
  pub threshold : s.threshold ≤ 64
  pub period : period_ok s.period ≡ true
  pub limit : limit_ok s.limit ≡ true

pub settings-form : (f : Form) (s : Settings) → settings_ok f s ≡ true → SettingsForm f s
unfolding settings_ok
settings-form f s ok =
    let k₁ = and_right (groups_ok f s.count s.groups) _ ok in
    let k₂ = and_right (leb s.threshold 64) _ k₁ in
    record { groups = and_left _ _ ok; threshold = leb-true _ _ (and_left _ _ k₁); period = and_left _ _ k₂; limit = and_right (period_ok s.period) _ k₂ }

pub form-settings : (f : Form) (s : Settings) → SettingsForm f s → settings_ok f s ≡ true
unfolding settings_ok
form-settings f s g = and_both _ _ g.groups (and_both _ _ (le-leb _ _ g.threshold) (and_both _ _ g.period g.limit))

-- an entry that is 0 or in a range stands for a number of that range, if what 0 stands for is one: so do the first period and the Sync limit
entry-range : (zeros least most entry : ℕ) → least ≤ zeros → zeros ≤ most → (eqb entry 0 || (leb least entry && leb entry most)) ≡ true
    → (least ≤ (if eqb entry 0 then zeros else entry)) × ((if eqb entry 0 then zeros else entry) ≤ most)
entry-range zeros least most entry p q ok = go (eqb entry 0) ok
  where
    go : (b : Bool) → (b || (leb least entry && leb entry most)) ≡ true → (least ≤ (if b then zeros else entry)) × ((if b then zeros else entry) ≤ most)
    go true e = (p, q)
    go false e = (leb-true _ _ (and_left _ _ e), leb-true _ _ (and_right (leb least entry) _ e))

pub period-range : (entry : ℕ) → period_ok entry ≡ true → (10 ≤ period_of entry) × (period_of entry ≤ 1000)
unfolding period_ok period_of
period-range entry ok = entry-range factory_period 10 1000 entry (lit≤ tt) (lit≤ tt) ok

pub limit-range : (entry : ℕ) → limit_ok entry ≡ true → (1 ≤ limit_of entry) × (limit_of entry ≤ 10)
unfolding limit_ok limit_of
limit-range entry ok = entry-range factory_limit 1 10 entry (lit≤ tt) (lit≤ tt) ok

-- a Sync limit's entry is one comparison
pub limit-one : (entry : ℕ) → leb entry 10 ≡ limit_ok entry
unfolding limit_ok
limit-one entry = elim (ℕ_discrete entry 0) [
  | yes e ↦ rw e refl
  | no d ↦ rw (ne_eqb entry 0 d, le-leb 1 entry (omega (arith, d))) refl
]

pub record GeometryForm (g : Geometry) : Type 0 where
  pub some : 1 ≤ g.slots
  pub few : g.slots ≤ (form_of g.size).slots
  pub first : g.first ≡ 32

pub geometry-form : (g : Geometry) → geometry_ok g ≡ true → GeometryForm g
unfolding geometry_ok
geometry-form g ok =
    let k₁ = and_right (leb 1 g.slots) _ ok in
    record { some = leb-true _ _ (and_left _ _ ok); few = leb-true _ _ (and_left _ _ k₁); first = eqb-true _ _ (and_right (leb g.slots (form_of g.size).slots) _ k₁) }

pub form-geometry : (g : Geometry) → GeometryForm g → geometry_ok g ≡ true
unfolding geometry_ok
form-geometry g f = and_both _ _ (le-leb _ _ f.some) (and_both _ _ (le-leb _ _ f.few) (eq-eqb _ _ f.first))

-- a geometry that has its form is of one that is served
pub geometry-served : (g : Geometry) → GeometryForm g → Served (form_of g.size)
geometry-served g f = form-served g.size (omega (arith, f.some, f.few))

pub record HeaderForm (h : Header) : Type 0 where
  pub geometry : GeometryForm h.geometry
  pub spare : h.spare ≡ 0
  pub own : own_ok h.own ≡ true
  pub settings : settings_ok (form_in h) h.settings ≡ true

pub header-form : (h : Header) → header_ok h ≡ true → HeaderForm h
unfolding header_ok bounds_ok
header-form h ok =
    let k : bounds_ok h ≡ true = and_left _ _ ok in
    let k₁ = and_right (geometry_ok h.geometry) _ k in
    record { geometry = geometry-form _ (and_left _ _ k); spare = eqb-true _ _ (and_left _ _ k₁); own = and_right (eqb h.spare 0) _ k₁; settings = and_right (bounds_ok h) _ ok }

pub form-header : (h : Header) → HeaderForm h → header_ok h ≡ true
unfolding header_ok bounds_ok
form-header h f = and_both _ _ (and_both _ _ (form-geometry _ f.geometry) (and_both _ _ (eq-eqb _ _ f.spare) f.own)) f.settings

-- its form is one that is served, and it lists groups that this form can store
pub header-served : (h : Header) → header_ok h ≡ true → Served (form_in h)
header-served h ok = geometry-served h.geometry (header-form h ok).geometry

pub header-groups : (h : Header) → header_ok h ≡ true → Groups (form_in h) h.settings.count h.settings.groups
header-groups h ok = groups-form (form_in h) _ _ (settings-form (form_in h) _ (header-form h ok).settings).groups

-- numbers that hold in every form: 144 octets of a stored commit at least, three groups and 64 slots at most
pub header-width : (h : Header) → header_ok h ≡ true → 144 ≤ width_in h
header-width h ok = (header-served h ok).wide

pub header-count : (h : Header) → header_ok h ≡ true → h.settings.count ≤ 3
header-count h ok = omega (arith, (header-groups h ok).few, form-groups h.geometry.size)

pub header-slots : (h : Header) → header_ok h ≡ true → h.geometry.slots ≤ 64
header-slots h ok = omega (arith, (header-form h ok).geometry.few, form-slots h.geometry.size)

-- its Sync limit is in its range, and so the highest Sync is in its octet's
pub header-limit : (h : Header) → header_ok h ≡ true → (1 ≤ limit_of h.settings.limit) × (limit_of h.settings.limit ≤ 10)
header-limit h ok = limit-range _ (settings-form (form_in h) _ (header-form h ok).settings).limit

pub header-high : (h : Header) → header_ok h ≡ true → high_sync h < 256
header-high h ok = omega (arith, (header-limit h ok).1)

-- a listed group has a length, and its commit has room in the form
pub header-listed : (h : Header) → header_ok h ≡ true → (g : ℕ) → listed (groups_of h) g ≡ true → listable (width_in h) g ≡ true
header-listed h ok g l = listed-listable (width_in h) (groups_of h) g (header-groups h ok).listable l

pub listed-known : (h : Header) → header_ok h ≡ true → (g : ℕ) → listed (groups_of h) g ≡ true → known g ≡ true
listed-known h ok g l = listable-known (width_in h) g (header-listed h ok g l)

-- ---- what the two forms allow, in the papers' numbers; a header of another record size does not have its form

pub record NarrowHeader (h : Header) : Type 0 where
  pub size : h.geometry.size ≡ 864
  pub slots : h.geometry.slots ≤ 64
  pub count : h.settings.count ≤ 2
  pub groups : (g : ℕ) → listed (groups_of h) g ≡ true → (eqb g 19 || eqb g 20) ≡ true

pub record WideHeader (h : Header) : Type 0 where
  pub size : h.geometry.size ≡ 1080
  pub slots : h.geometry.slots ≤ 60
  pub count : h.settings.count ≤ 3
  pub groups : (g : ℕ) → listed (groups_of h) g ≡ true → (eqb g 19 || (eqb g 20 || eqb g 21)) ≡ true

pub header-forms : (h : Header) → header_ok h ≡ true → NarrowHeader h ⊎ WideHeader h
header-forms h ok = go (form-of h.geometry.size)
  where
    few : h.geometry.slots ≤ (form_in h).slots
    few = (header-form h ok).geometry.few

    listing : Groups (form_in h) h.settings.count h.settings.groups
    listing = header-groups h ok

    go : FormOf h.geometry.size → NarrowHeader h ⊎ WideHeader h
    go (is_narrow e f) = inl (record {
      size = e;
      slots = subst (λ (x : Form). h.geometry.slots ≤ x.slots) f few;
      count = subst (λ (x : Form). h.settings.count ≤ x.groups) f listing.few;
      groups = λ g l. sym (listable-narrow g) ∙ subst (λ (x : Form). listable x.width g ≡ true) f (header-listed h ok g l);
    })
    go (is_wide e f) = inr (record {
      size = e;
      slots = subst (λ (x : Form). h.geometry.slots ≤ x.slots) f few;
      count = subst (λ (x : Form). h.settings.count ≤ x.groups) f listing.few;
      groups = λ g l. sym (listable-wide g) ∙ subst (λ (x : Form). listable x.width g ≡ true) f (header-listed h ok g l);
    })
    go (is_none f) = absurd (let z : h.geometry.slots ≤ 0 = subst (λ (x : Form). h.geometry.slots ≤ x.slots) f few in omega (arith, z, (header-form h ok).geometry.some))

-- the counts are not looked at
pub header-counted : (h : Header) (n : Counts) → header_ok (counted h n) ≡ header_ok h
unfolding header_ok bounds_ok
header-counted h n = refl
