-- What a call of the engine does to its table: nothing, where it is refused or nothing is due; another form of the same contents, where it is moved; or a
-- step of one of the kinds, at one address alone.
use mathlib.Core.Path.{◌≡◌, refl, sym, ap, ◌∙◌, subst}
use mathlib.Core.Logic.{◌⊎◌, inl, inr}
use mathlib.Core.Bool.{Bool, true, false, not}
use mathlib.Core.List.{List, []}
use Prim.Native.Nat.{ℕ, ◌+◌, ◌^◌, ◌≤◌, ◌<◌}
use native.Mathlib.Omega.{arith}
use native.Mathlib.Nat.{zero-div}
use lib.Dec.{eqb, ltb}
use lib.ListN.{length, get_or}
use lib.Seq.{length-take-le}
use borrow.Author.Tests.{eqb-true, not-false}
use Rattle.std.specs.Prelude.{if◌then◌else◌, Option, Some, None, Result, Ok, Err}
use Rattle.octets.specs.Octets.{Bytes, part, num, same_address}
use Rattle.octets.proofs.Scan.{clash}
use Rattle.octets.proofs.Laws.{get-law, get8-law}
use Rattle.groups.specs.Groups.{commits_of, fresh_of, fresh_ok, fresh_at}
use Rattle.frame.specs.Frame.{read_body}
use Rattle.frame.specs.declared.Body.{Body}
use Rattle.frame.specs.declared.Body.TheVariants as body
use Rattle.frame.proofs.Shapes.{commit-shape, other-confirm-shape}
use Rattle.record.specs.declared.Peer.{Peer}
use Rattle.record.specs.declared.Counts.{Counts}
use Rattle.record.specs.declared.Form.{Form}
use Rattle.record.specs.declared.Header.{Header}
use Rattle.record.specs.declared.Settings.{Settings}
use Rattle.record.specs.Layout.{form_of, width_in, groups_of, limit_of, counted, no_peer, decode_header, header_of}
use Rattle.record.specs.SettingsOctets.{settings_of, reserved_zero}
use Rattle.record.proofs.Laws.{Served, form-width}
use Rattle.soundness.proofs.Laws.{header-groups, header-width, header-count}
use Rattle.table.specs.Table.{Table, decode_table, encode_table, recounted, slot, finds, look, look_by, sound, entry}
use Rattle.table.proofs.Laws.{entry-found, sound-header}
use Rattle.initial.specs.Initial.{initial_ok, slots_for, initial_header, initial_table, initial}
use Rattle.initial.proofs.Initial.{FitSettings, initial-slot, initial-served, initial-decoded, initial-sound, bytes-initial}
use Rattle.good_links.specs.GoodLinks.{fills}
use Rattle.good_links.proofs.GoodLinks.{fills-sound}
use Rattle.rules.specs.declared.Frames.TheVariants as frames
use Rattle.rules.specs.Book.{◌is◌, has_run, Step, silence}
use Rattle.message.specs.View.{view, view_of, message, message_of, commit_in}
use Rattle.causes.specs.declared.Refusal.{Refusal}
use Rattle.causes.specs.declared.Refusal.TheVariants as why
use Rattle.answers.specs.Outcome.{Outcome}
use Rattle.answers.specs.Outcome as outcome
use Rattle.answers.specs.Answers.{Report, Left, ends, turned, finishes, refuse, refused, quiet, none_due, said}
use Rattle.answers.proofs.Laws.{Entered, old, new, unchanged-ends}
use Rattle.answers.proofs.Theorems.{Good}
use Rattle.answers.proofs.Ending.{Finished, Turned, turn-ends, finish-ends}
use Rattle.answers.proofs.Ending as ending
use Rattle.calls.specs.Calls.{initializes, initializes_from, initiates, kills, receives, expires, expires_by, terms_of, clock_of, fresh_in, brings, no_token, admit_start, start_turn, start_step, kill_turn, kill_step, admit_frame, frame_turn, frame_step, due_slot, clock_step}
use Rattle.moves.specs.declared.Direction.{Direction}
use Rattle.moves.specs.Moves.{target_form, resized, moved, SameContents, Moved, moves}
use Rattle.moves.proofs.Laws.{moved_same, Passed, done-passed, passed-done, done-movable}
use Rattle.call_laws.proofs.Ends.{set-up-leaves}
use Rattle.agreement.specs.Calls.{Writing, Call, initialize, initiate, kill, receive, expire, write, fill, move, Octets, CallHanded, an_initialize, an_initiate, a_kill, a_receive, an_expire, a_write, a_fill, a_move, left, is_done, done, table_after}
use Rattle.agreement.specs.Story.{stock_of, stock_in, groups_in, limit_in}
use Rattle.agreement.proofs.Rules.{Whole, Afresh, Verified, verified, Does}
use Rattle.agreement.proofs.Ruled.{State, Heard, Stocked, frame-does, clock-does, start-does}
use Rattle.agreement.proofs.Stock.{sound-listing, same-stock, stocked}

-- ---- what the engine's proofs give: each call's step leaves a record of the right form

pub record Lawful : Type 0 where
  pub initiate_good : (t a : List ℕ) (time : ℕ) (fresh : List ℕ) (f : Option ℕ) → Bytes t → length a ≡ 6 → Bytes a → time < 2 ^ 32 → Bytes fresh
      → start_turn (entry t a) t fresh ≡ Ok f → Good t a f (start_step (decode_table t) f a time fresh)
  pub kill_good : (t a : List ℕ) (f : Option ℕ) → Bytes t → length a ≡ 6 → Bytes a → kill_turn (entry t a) ≡ Ok f → Good t a f kill_step
  pub receive_good : (t a : List ℕ) (time : ℕ) (frame fresh expected : List ℕ) (verdict : ℕ) (f : Option ℕ) → Bytes t → length a ≡ 6 → Bytes a → time < 2 ^ 32
      → Bytes frame → Bytes fresh → Bytes expected → verdict < 2 ^ 8
      → frame_turn (entry t a) t frame fresh expected verdict ≡ Ok f → Good t a f (frame_step (decode_table t) f a time frame fresh expected verdict)
  pub expire_good : (t : List ℕ) (time k : ℕ) → Bytes t → time < 2 ^ 32 → sound t ≡ true → due_slot (decode_table t) time ≡ Some k
      → Good t (slot (decode_table t) k).address (Some k) (clock_step (decode_table t) k time)
  pub expire_address : (t : List ℕ) (time k : ℕ) → Bytes t → sound t ≡ true → due_slot (decode_table t) time ≡ Some k
      → (length (slot (decode_table t) k).address ≡ 6) × Bytes (slot (decode_table t) k).address

-- ---- who goes on

go_same : {f g : Option ℕ} → ◌≡◌ {A = Result (Option ℕ) Refusal} (Ok f) (Ok g) → f ≡ g
go_same e = cc

clashed : {c : Refusal} {f : Option ℕ} {X : Type 0} → Err c ≡ Ok f → X
clashed e = let z : ◌≡◌ {A = ℕ} 0 1 = cc in absurd (omega arith)

-- a refusal's branch was not taken
past : (b : Bool) (c : Refusal) (x : Result (Option ℕ) Refusal) (f : Option ℕ) → (if b then Err c else x) ≡ Ok f → (b ≡ false) × (x ≡ Ok f)
past true c x f e = clashed e
past false c x f e = (refl, e)

admit-start : (T : Table) (g : Option ℕ) (fresh : List ℕ) (f : Option ℕ) → admit_start T g fresh ≡ Ok f
    → (fresh_ok (width_in T.header) (groups_of T.header) fresh ≡ true) × ((eqb (look_by T f).run.state 0 ≡ true))
unfolding admit_start
admit-start T g fresh f e =
    let a = past (not (fresh_ok (width_in T.header) (groups_of T.header) fresh)) why.Fresh (if has_run (look_by T g) then Err why.Running else Ok g) f e in
    let b = past (has_run (look_by T g)) why.Running (Ok g) f a.1 in
    (not-false _ a.0, subst (λ (x : Option ℕ). eqb (look_by T x).run.state 0 ≡ true) (go_same b.1) (not-false _ b.0))

start-admits : (E : Result (Option ℕ) Refusal) (t fresh : List ℕ) (f : Option ℕ) → start_turn E t fresh ≡ Ok f
    → (fresh_ok (width_in (decode_table t).header) (groups_in t) fresh ≡ true) × (eqb (look_by (decode_table t) f).run.state 0 ≡ true)
unfolding start_turn
start-admits (Err r) t fresh f e = clashed e
start-admits (Ok None) t fresh f e = admit-start (decode_table t) None fresh f e
start-admits (Ok (Some k)) t fresh f e = admit-start (decode_table t) (Some k) fresh f e

admit-frame : (b x y z : Bool) (g f : Option ℕ)
    → (if not b then Err why.Fresh else if x then Err why.Token else if y then Err why.Verdict else if z then Err why.Body else Ok g) ≡ Ok f
    → (b ≡ true) × (z ≡ false)
admit-frame b x y z g f e =
    let p = past (not b) why.Fresh (if x then Err why.Token else if y then Err why.Verdict else if z then Err why.Body else Ok g) f e in
    let q = past x why.Token (if y then Err why.Verdict else if z then Err why.Body else Ok g) f p.1 in
    let r = past y why.Verdict (if z then Err why.Body else Ok g) f q.1 in
    (not-false b p.0, (past z why.Body (Ok g) f r.1).0)

frame-admits : (E : Result (Option ℕ) Refusal) (t frame fresh expected : List ℕ) (verdict : ℕ) (f : Option ℕ) → frame_turn E t frame fresh expected verdict ≡ Ok f
    → (fresh_ok (width_in (decode_table t).header) (groups_in t) fresh ≡ true) × (eqb (view (groups_in t) frame).sequence 0 ≡ false)
unfolding frame_turn admit_frame
frame-admits (Err r) t frame fresh expected verdict f e = clashed e
frame-admits (Ok None) t frame fresh expected verdict f e =
    admit-frame (fresh_ok (width_in (decode_table t).header) (groups_in t) fresh) (not (eqb (length expected) 32)) (ltb 1 verdict) ((view (groups_in t) frame).sequence is 0) None f e
frame-admits (Ok (Some k)) t frame fresh expected verdict f e =
    admit-frame (fresh_ok (width_in (decode_table t).header) (groups_in t) fresh) (not (eqb (length expected) 32)) (ltb 1 verdict) ((view (groups_in t) frame).sequence is 0) (Some k) f e

-- the record that a call found is its address's
entered-look : (t a : List ℕ) (f : Option ℕ) → Entered t a f → look_by (decode_table t) f ≡ look (decode_table t) a
unfolding look
entered-look t a f (old {k} e) = ap (look_by (decode_table t)) (sym (entry-found t a (Some k) e).1.1)
entered-look t a f (new e) = ap (look_by (decode_table t)) (sym (entry-found t a None e).1.1)

entered-sound : (t a : List ℕ) (f : Option ℕ) → Entered t a f → sound t ≡ true
entered-sound t a f (old {k} e) = (entry-found t a (Some k) e).0
entered-sound t a f (new e) = (entry-found t a None e).0

-- ---- the rules at work

module _ (t : List ℕ) (s : sound t ≡ true) where
  abbrev head : Header
  head = (decode_table t).header

  first-listed : 0 < length (groups_in t)
  unfolding decode_table decode_header header_of
  first-listed =
      let g = header-groups _ (sound-header t s) in
      let n = length-take-le head.settings.count head.settings.groups (omega (arith, header-count _ (sound-header t s))) in
      omega (arith, n, g.some)

  width_low : 1 ≤ width_in head
  width_low = omega (arith, header-width head (sound-header t s))

  module _ (c : Call) (w : fresh_ok (width_in head) (groups_in t) (stock_of c) ≡ true) where
    all-stocked : Stocked (groups_in t) c
    all-stocked = let l = sound-listing t s in stocked (width_in head) (groups_in t) (stock_of c) width_low (form-width _) first-listed l.known l.once w c refl

    table-stock : fresh_in head (stock_of c) ≡ stock_in (groups_in t) c
    table-stock = let l = sound-listing t s in sym (same-stock (width_in head) (groups_in t) (stock_of c) width_low (form-width _) first-listed l.known l.once w c refl)

start-kind : (t a : List ℕ) (time : ℕ) (fresh : List ℕ) (f : Option ℕ) → sound t ≡ true → start_turn (entry t a) t fresh ≡ Ok f
    → (start_step (decode_table t) f a time fresh).refused ≡ false
    → Does (groups_in t) (limit_in t) (initiate a time fresh) (look_by (decode_table t) f) (start_step (decode_table t) f a time fresh)
unfolding start_step
start-kind t a time fresh f s e r =
    let q = start-admits (entry t a) t fresh f e in
    start-does (terms_of (decode_table t) f) (brings a (clock_of (decode_table t).header time) (fresh_in (decode_table t).header fresh) no_token false) (initiate a time fresh) (look_by (decode_table t) f) refl refl (eqb-true _ _ q.1)
    (subst (λ (x : List (List ℕ)). Afresh (groups_in t) (initiate a time fresh) (get_or (groups_in t) 0 0) (fresh_at x 0)) (sym (table-stock t s (initiate a time fresh) q.0))
    ((all-stocked t s (initiate a time fresh) q.0).place 0 _ (first-listed t s) refl)) r

module _ (gs a : List ℕ) (time : ℕ) (frame fresh expected : List ℕ) (verdict : ℕ) where
  abbrev frame_call : Call
  frame_call = receive a time frame fresh expected verdict

  is-verified : (n : ℕ) → read_body gs frame ≡ Some (body.Confirm n) → (verdict is 1) ≡ true → Verified gs frame_call
  is-verified n e v = subst (λ (x : ℕ). Verified gs (receive a time frame fresh expected x)) (sym (eqb-true _ _ v)) (verified e)

  -- what a well-formed frame is to the rules
  heard-by : (b : Option Body) → read_body gs frame ≡ b → eqb (view_of b).sequence 0 ≡ false → Heard gs frame_call (message_of frame (view_of b)) (verdict is 1)
  unfolding commit_in view
  heard-by (Some (body.Commit g n)) e w = record {
    commit = λ z l. (record { token = n; frame = refl; reads = e; stored_as = refl }, (commit-shape gs frame g n e).supported);
    confirm = λ d z v. absurd (d refl);
  }
  heard-by (Some (body.Unsupported g)) e w = record { commit = λ z l. absurd (clash l refl); confirm = λ d z v. absurd (d refl) }
  heard-by (Some (body.TokenRequest g n)) e w = record { commit = λ z l. absurd (omega arith); confirm = λ d z v. absurd (d refl) }
  heard-by (Some (body.GroupRefusal g)) e w = record { commit = λ z l. absurd (omega arith); confirm = λ d z v. absurd (d refl) }
  heard-by (Some (body.OtherCommit x)) e w = record {
    commit = λ z l. absurd (clash l refl);
    confirm = λ d z v. absurd (d refl);
  }
  heard-by (Some (body.Confirm n)) e w = record { commit = λ z l. absurd (clash l refl); confirm = λ d z v. is-verified n e v }
  heard-by (Some (body.OtherConfirm x)) e w = record {
    commit = λ z l. absurd (clash l refl);
    confirm = λ d z v. absurd ((other-confirm-shape gs frame x e).not_zero z);
  }
  heard-by None e w = absurd (clash refl w)

  heard : eqb (view gs frame).sequence 0 ≡ false → Heard gs frame_call (message gs frame) (verdict is 1)
  unfolding message view
  heard w = heard-by (read_body gs frame) refl w

frame-kind : (t a : List ℕ) (time : ℕ) (frame fresh expected : List ℕ) (verdict : ℕ) (f : Option ℕ) → Stocked (groups_in t) (receive a time frame fresh expected verdict)
    → fresh_in (decode_table t).header fresh ≡ stock_in (groups_in t) (receive a time frame fresh expected verdict) → eqb (view (groups_in t) frame).sequence 0 ≡ false → Whole (look_by (decode_table t) f) → State (look_by (decode_table t) f).run.state
    → Does (groups_in t) (limit_in t) (receive a time frame fresh expected verdict) (look_by (decode_table t) f) (frame_step (decode_table t) f a time frame fresh expected verdict)
unfolding frame_step
frame-kind t a time frame fresh expected verdict f S y w W z =
    frame-does (terms_of (decode_table t) f) (brings a (clock_of (decode_table t).header time) (fresh_in (decode_table t).header fresh) expected (verdict is 1)) (receive a time frame fresh expected verdict)
    (look_by (decode_table t) f) (message (groups_in t) frame) refl y W z (heard (groups_in t) a time frame fresh expected verdict w) (λ e. S)

-- a clock call brings no frame
no-frame : (gs : List ℕ) (time : ℕ) → Heard gs (expire time) silence false
no-frame gs time = record { commit = λ z l. absurd (clash l refl); confirm = λ d z v. absurd (clash v refl) }

no-stock : (W : ℕ) → [] ≡ fresh_of W []
unfolding fresh_of commits_of
no-stock W = rw (zero-div W) refl

clock-kind : (t : List ℕ) (time k : ℕ) → Whole (look_by (decode_table t) (Some k)) → State (look_by (decode_table t) (Some k)).run.state
    → Does (groups_in t) (limit_in t) (expire time) (look_by (decode_table t) (Some k)) (clock_step (decode_table t) k time)
unfolding clock_step look_by
clock-kind t time k W z =
    clock-does (terms_of (decode_table t) (Some k)) (brings (slot (decode_table t) k).address (clock_of (decode_table t).header time) [] no_token false) (expire time)
    (slot (decode_table t) k) refl (no-stock _) W z (no-frame (groups_in t) time)

-- ---- how a call ends

-- a start, a frame or a clock call about the address: its step is told
pub data Told : List ℕ → Call → Type 0 where
  a_start : {a : List ℕ} {time : ℕ} {fresh : List ℕ} → Told a (initiate a time fresh)
  a_frame : {a : List ℕ} {time : ℕ} {frame fresh expected : List ℕ} {verdict : ℕ} → Told a (receive a time frame fresh expected verdict)
  a_clock : {a : List ℕ} {time : ℕ} → Told a (expire time)

-- a step o was made at the address a of the table t, which becomes u; r is the answer
pub record Made (t u : List ℕ) (a : List ℕ) (o : Step) (r : Report) : Type 0 where
  pub answer : r ≡ said o a
  pub was : sound t ≡ true
  pub sound : sound u ≡ true
  pub bytes : Bytes u
  pub groups : groups_in u ≡ groups_in t
  pub limit : limit_in u ≡ limit_in t
  pub here : look (decode_table u) a ≡ o.peer
  pub elsewhere : (b : List ℕ) → same_address a b ≡ false → look (decode_table u) b ≡ look (decode_table t) b

-- a table that a fill leaves as it is: a sound one, or none
pub record Held (t : List ℕ) : Type 0 where
  pub bytes : Bytes t
  pub filled : fills t ≡ t

pub sound-held : (t : List ℕ) → Bytes t → sound t ≡ true → Held t
sound-held t b s = record { bytes = b; filled = fills-sound t b s }

pub data Ends (t : List ℕ) : Call → Type 0 where
  -- a refusal, a refused move too, nothing due, the writer's, or a fill
  idles : {c : Call} → done t c ≡ false → table_after t c ≡ t → Ends t c
  -- a move that is done: no step, and the table after it is one of the same contents
  goes_on : {c : Call} → done t c ≡ false → SameContents t (table_after t c) → Ends t c
  -- a set up: no address has a record, and the Sync limit is what the settings say
  sets_up : {size : ℕ} {buffer own settings : List ℕ} → done t (initialize size buffer own settings) ≡ true → (left t (initialize size buffer own settings)).answer.frames ≡ frames.None
      → Held (table_after t (initialize size buffer own settings)) → ((a : List ℕ) → look (decode_table (table_after t (initialize size buffer own settings))) a ≡ no_peer)
      → limit_in (table_after t (initialize size buffer own settings)) ≡ limit_of (settings_of settings).limit
      → Ends t (initialize size buffer own settings)
  frees : {a : List ℕ} → done t (kill a) ≡ true → Made t (table_after t (kill a)) a kill_step (left t (kill a)).answer → Ends t (kill a)
  steps : {c : Call} (a : List ℕ) (o : Step) → Told a c → done t c ≡ true → Made t (table_after t c) a o (left t c).answer
      → (Whole (look (decode_table t) a) → State (look (decode_table t) a).run.state → Does (groups_in t) (limit_in t) c (look (decode_table t) a) o) → Ends t c

groups-kept : (h k : Header) (n : Counts) → k ≡ counted h n → groups_of k ≡ groups_of h
groups-kept h k n e = ap groups_of e

limit-kept : (h k : Header) (n : Counts) → k ≡ counted h n → limit_of k.settings.limit ≡ limit_of h.settings.limit
limit-kept h k n e = ap (λ (x : Header). limit_of x.settings.limit) e

made_of : (t a : List ℕ) (o : Step) (l : Left) → sound t ≡ true → Finished t a o l → Made t l.table a o l.answer
made_of t a o l s F = record {
  answer = F.answer;
  was = s;
  sound = F.sound;
  bytes = F.bytes;
  groups = groups-kept (decode_table t).header (decode_table l.table).header _ F.header;
  limit = limit-kept (decode_table t).header (decode_table l.table).header _ F.header;
  here = F.here;
  elsewhere = F.elsewhere;
}

said-done : (o : Step) (a : List ℕ) (r : Report) → r ≡ said o a → is_done r.outcome ≡ true
unfolding said
said-done o a r e = rw e

-- a step that is done was not refused
step-done : (t : List ℕ) (f : Option ℕ) (o : Step) (a : List ℕ) → (finishes t f o a).answer ≡ said o a → o.refused ≡ false
unfolding finishes refused
step-done t f o a e = go o.refused refl
  where
    go : (x : Bool) → o.refused ≡ x → x ≡ false
    go true q = absurd (clash (said-done o a _ e) (rw q refl))
    go false q = refl

turn-done : (w : Result (Option ℕ) Refusal) (g : Option ℕ → Step) (t a : List ℕ) (f : Option ℕ) → w ≡ Ok f → (turned w g t a).answer ≡ said (g f) a → (g f).refused ≡ false
unfolding turned
turn-done w g t a f e q = step-done t f (g f) a (subst (λ (x : Result (Option ℕ) Refusal). (turned x g t a).answer ≡ said (g f) a) e q)

refused-not : (c : Refusal) (t : List ℕ) (l : Left) → l ≡ refuse t c → (is_done l.answer.outcome ≡ false) × (l.table ≡ t)
unfolding refused
refused-not c t l e = (rw e, rw e)

quiet-done : (a : List ℕ) → is_done (quiet a).outcome ≡ true
unfolding quiet
quiet-done a = refl

quiet-frames : (a : List ℕ) → (quiet a).frames ≡ frames.None
unfolding quiet
quiet-frames a = refl

refused-done : (c : Refusal) → is_done (refused c).outcome ≡ false
unfolding refused
refused-done c = refl

fresh-look-by : (T : Table) (f : Option ℕ) → ((k : ℕ) → slot T k ≡ no_peer) → look_by T f ≡ no_peer
unfolding look_by
fresh-look-by T (Some k) e = e k
fresh-look-by T None e = refl

pub fresh-look : (T : Table) (a : List ℕ) → ((k : ℕ) → slot T k ≡ no_peer) → look T a ≡ no_peer
unfolding look
fresh-look T a e = fresh-look-by T (finds T a) e

nothing-done : (t : List ℕ) (time : ℕ) → Bytes t → sound t ≡ true → (is_done (expires_by None t time).answer.outcome ≡ false) × ((expires_by None t time).table ≡ t)
unfolding expires_by ends none_due
nothing-done t time b s = (refl, unchanged-ends none_due t b s)

-- the clock call, by what it comes to
module _ (t : List ℕ) (time : ℕ) (l : Left) (q : expires t time ≡ l) where
  clock-idles : is_done l.answer.outcome ≡ false → l.table ≡ t → Ends t (expire time)
  unfolding done table_after
  clock-idles d e = idles {c = expire time} (ap (λ (x : Left). is_done x.answer.outcome) q ∙ d) (ap (λ (x : Left). x.table) q ∙ e)

  clock-steps : (a : List ℕ) (o : Step) → is_done l.answer.outcome ≡ true → Made t l.table a o l.answer
      → (Whole (look (decode_table t) a) → State (look (decode_table t) a).run.state → Does (groups_in t) (limit_in t) (expire time) (look (decode_table t) a) o) → Ends t (expire time)
  unfolding done table_after
  clock-steps a o d m k =
      steps {c = expire time} a o a_clock (ap (λ (x : Left). is_done x.answer.outcome) q ∙ d) (subst (λ (x : Left). Made t x.table a o x.answer) (sym q) m) k

expires-due : (t : List ℕ) (time : ℕ) (d : Option ℕ) → sound t ≡ true → due_slot (decode_table t) time ≡ d → expires t time ≡ expires_by d t time
unfolding expires
expires-due t time d s e = rw (s, e)

expires-unsound : (t : List ℕ) (time : ℕ) → sound t ≡ false → expires t time ≡ refuse t why.Unsound
unfolding expires
expires-unsound t time s = rw s

-- what the octets of the settings can say
one_below : (s : List ℕ) (at : ℕ) → Bytes s → at + 1 ≤ length s → num (part s at 1) < 256
one_below s at b h = rw (← get8-law s at) (b at)

two-below : (s : List ℕ) (at : ℕ) → Bytes s → at + 2 ≤ length s → num (part s at 2) < 65536
two-below s at b h =
    let e = get-law 1 1 s at _ _ _ (omega arith) (get8-law s at (omega arith)) (get8-law s (at + 1) (omega arith)) refl in
    let x = b at in
    let y = b (at + 1) in
    rw (← e) (omega arith)

settings-fit : (s own : List ℕ) → Octets 16 s → Octets 6 own → FitSettings (settings_of s) own
unfolding settings_of
settings-fit s own hs ho = record {
  settings = record {
    count = one_below s 0 hs.bytes (omega (arith, hs.many));
    groups = refl;
    group0 = two-below s 2 hs.bytes (omega (arith, hs.many));
    group1 = two-below s 4 hs.bytes (omega (arith, hs.many));
    group2 = two-below s 6 hs.bytes (omega (arith, hs.many));
    threshold = two-below s 8 hs.bytes (omega (arith, hs.many));
    period = two-below s 10 hs.bytes (omega (arith, hs.many));
    limit = one_below s 12 hs.bytes (omega (arith, hs.many));
  };
  six = ho.many;
  bytes = ho.bytes;
}

initial-limit : (f : Form) (s : Settings) (own : List ℕ) (n : ℕ) → limit_of (initial_table f s own n).header.settings.limit ≡ limit_of s.limit
unfolding initial_table initial_header
initial-limit f s own n = refl

-- a fill
fill-ends : (t : List ℕ) → Held t → Ends t fill
unfolding done table_after none_due
fill-ends t H = idles {c = fill} refl H.filled

-- the writer's call
write-ends : (t : List ℕ) (w : Writing) → Ends t (write w)
unfolding done table_after none_due
write-ends t w = idles {c = write w} refl refl

-- ---- a move

-- tables of the same contents have the same record of every address, and the same Sync limit
resized-by : (n : ℕ) (T : Table) (f : Option ℕ) → look_by (resized n T) f ≡ look_by T f
unfolding look_by slot
resized-by n T (Some k) = refl
resized-by n T None = refl

resized-look : (n : ℕ) (T : Table) (a : List ℕ) → look (resized n T) a ≡ look T a
unfolding look finds slot
resized-look n T a = resized-by n T (finds T a)

pub same-look : (t u : List ℕ) → SameContents t u → (a : List ℕ) → look (decode_table u) a ≡ look (decode_table t) a
same-look t u S a = ap (λ (T : Table). look T a) S.table ∙ resized-look _ (decode_table t) a

pub same-limit : (t u : List ℕ) → SameContents t u → limit_in u ≡ limit_in t
same-limit t u S = ap (λ (T : Table). limit_of T.header.settings.limit) S.table

done-is : (o : Outcome) → is_done o ≡ true → o ≡ outcome.Done
done-is outcome.Done e = refl
done-is outcome.NoneDue e = absurd (clash e refl)
done-is (outcome.Refused c) e = absurd (clash e refl)

module _ (t : List ℕ) (d : Direction) (target : List ℕ) where
  -- a refused one leaves the printer its table
  pub move-refused : is_done (moves d t target).answer ≡ false → table_after t (move d target) ≡ t
  unfolding table_after
  move-refused k = rw k refl

  -- one that is done has passed its tests
  move-passed : is_done (moves d t target).answer ≡ true → Passed d t target
  move-passed k = done-passed d t target (done-is _ k)

  -- and makes its target the table
  pub move-leaves : is_done (moves d t target).answer ≡ true → table_after t (move d target) ≡ moved (target_form d) t
  unfolding table_after
  move-leaves k = rw k (ap (λ (m : Moved). m.target) (passed-done d t target (move-passed k)))

  -- the old table, or one of the same contents
  pub move-keeps : Bytes t → (table_after t (move d target) ≡ t) ⊎ SameContents t (table_after t (move d target))
  move-keeps b = go (is_done (moves d t target).answer) refl
    where
      go : (x : Bool) → is_done (moves d t target).answer ≡ x → (table_after t (move d target) ≡ t) ⊎ SameContents t (table_after t (move d target))
      go true k = inr (subst (SameContents t) (sym (move-leaves k)) (moved_same (target_form d) t (done-movable d t target b (move-passed k))))
      go false k = inl (move-refused k)

  -- and no step
  pub move-idle : done t (move d target) ≡ false
  unfolding done none_due
  move-idle = refl

  move-ends : Bytes t → Ends t (move d target)
  move-ends b = go (move-keeps b)
    where
      go : (table_after t (move d target) ≡ t) ⊎ SameContents t (table_after t (move d target)) → Ends t (move d target)
      go (inl e) = idles move-idle e
      go (inr S) = goes_on move-idle S

-- ---- every call

module _ (L : Lawful) (t : List ℕ) (H : Held t) where
  b : Bytes t
  b = H.bytes

  -- a set up: refused for a reserved octet, for what the settings say, own address or length, or done
  initialize-ends : (size : ℕ) (buffer own settings : List ℕ) → Bytes buffer → Octets 6 own → Octets 16 settings → Ends t (initialize size buffer own settings)
  unfolding done table_after initializes_from initializes ends
  initialize-ends size buffer own settings bb ho hs = go (reserved_zero settings) (initial_ok form (settings_of settings) own (length buffer)) refl refl
    where
      form : Form
      form = form_of size

      fit : FitSettings (settings_of settings) own
      fit = settings-fit settings own hs ho

      served : initial_ok form (settings_of settings) own (length buffer) ≡ true → Served form
      served e = initial-served size (settings_of settings) own (length buffer) e

      made : initial_ok form (settings_of settings) own (length buffer) ≡ true
          → encode_table (recounted (initial_table form (settings_of settings) own (slots_for form (length buffer)))) ≡ initial form (settings_of settings) own buffer
      made e = rw e at (set-up-leaves size buffer own (settings_of settings))

      go : (z x : Bool) → reserved_zero settings ≡ z → initial_ok form (settings_of settings) own (length buffer) ≡ x → Ends t (initialize size buffer own settings)
      go true true z e = sets_up {size = size} {buffer = buffer} {own = own} {settings = settings} (rw (z, e) (quiet-done own)) (rw (z, e) (quiet-frames own))
          (rw (z, e, quiet-done own) (subst Held (sym (made e)) (sound-held _ (bytes-initial form (served e) (settings_of settings) own buffer fit bb)
          (initial-sound form (served e) (settings_of settings) own buffer fit e))))
          (λ a. rw (z, e, quiet-done own) (fresh-look _ a (λ k. ap (λ (u : List ℕ). slot (decode_table u) k) (made e)
          ∙ ap (λ (T : Table). slot T k) (initial-decoded form (served e) (settings_of settings) own buffer fit e) ∙ initial-slot form (settings_of settings) own (slots_for form (length buffer)) k)))
          (rw (z, e, quiet-done own) (ap (λ (u : List ℕ). limit_in u) (made e) ∙ ap (λ (T : Table). limit_of T.header.settings.limit) (initial-decoded form (served e) (settings_of settings) own buffer fit e)
          ∙ initial-limit form (settings_of settings) own (slots_for form (length buffer))))
      go true false z e = idles {c = initialize size buffer own settings} (rw (z, e) (refused-done why.Settings)) (rw (z, e, refused-done why.Settings))
      go false x z e = idles {c = initialize size buffer own settings} (rw z (refused-done why.Settings)) (rw (z, refused-done why.Settings))

  initiate-ends : (a : List ℕ) (time : ℕ) (fresh : List ℕ) → Octets 6 a → time < 2 ^ 32 → Bytes fresh → Ends t (initiate a time fresh)
  unfolding done table_after initiates
  initiate-ends a time fresh ha ht hf =
      go (turn-ends (start_turn (entry t a) t fresh) (λ f. start_step (decode_table t) f a time fresh) t a b ha.many ha.bytes
      (λ f e. L.initiate_good t a time fresh f b ha.many ha.bytes ht hf e))
    where
      go : Turned (start_turn (entry t a) t fresh) (λ f. start_step (decode_table t) f a time fresh) t a → Ends t (initiate a time fresh)
      go (ending.denied c e) = let r = refused-not c t _ e in idles r.0 r.1
      go (ending.done f e F) =
          let G = L.initiate_good t a time fresh f b ha.many ha.bytes ht hf e in
          let s = entered-sound t a f G.came in
          steps a (start_step (decode_table t) f a time fresh) a_start (said-done _ a _ F.answer) (made_of t a _ _ s F)
          (λ W z. subst (λ (p : Peer). Does (groups_in t) (limit_in t) (initiate a time fresh) p (start_step (decode_table t) f a time fresh)) (entered-look t a f G.came) (start-kind t a time fresh f s e (turn-done (start_turn (entry t a) t fresh) (λ x. start_step (decode_table t) x a time fresh) t a f e F.answer)))

  kill-ends : (a : List ℕ) → Octets 6 a → Ends t (kill a)
  unfolding done table_after kills
  kill-ends a ha = go (turn-ends (kill_turn (entry t a)) (λ f. kill_step) t a b ha.many ha.bytes (λ f e. L.kill_good t a f b ha.many ha.bytes e))
    where
      go : Turned (kill_turn (entry t a)) (λ f. kill_step) t a → Ends t (kill a)
      go (ending.denied c e) = let r = refused-not c t _ e in idles r.0 r.1
      go (ending.done f e F) = frees (said-done _ a _ F.answer) (made_of t a _ _ (entered-sound t a f (L.kill_good t a f b ha.many ha.bytes e).came) F)

  receive-ends : (a : List ℕ) (time : ℕ) (frame fresh expected : List ℕ) (verdict : ℕ) → Octets 6 a → time < 2 ^ 32 → Bytes frame → Bytes fresh → Bytes expected → verdict < 2 ^ 8
      → Ends t (receive a time frame fresh expected verdict)
  unfolding done table_after receives
  receive-ends a time frame fresh expected verdict ha ht hr hf he hv =
      go (turn-ends (frame_turn (entry t a) t frame fresh expected verdict) (λ f. frame_step (decode_table t) f a time frame fresh expected verdict) t a b ha.many ha.bytes
      (λ f e. L.receive_good t a time frame fresh expected verdict f b ha.many ha.bytes ht hr hf he hv e))
    where
      go : Turned (frame_turn (entry t a) t frame fresh expected verdict) (λ f. frame_step (decode_table t) f a time frame fresh expected verdict) t a
          → Ends t (receive a time frame fresh expected verdict)
      go (ending.denied c e) = let r = refused-not c t _ e in idles r.0 r.1
      go (ending.done f e F) =
          let G = L.receive_good t a time frame fresh expected verdict f b ha.many ha.bytes ht hr hf he hv e in
          let s = entered-sound t a f G.came in
          let q = entered-look t a f G.came in
          let w = frame-admits (entry t a) t frame fresh expected verdict f e in
          let S = all-stocked t s (receive a time frame fresh expected verdict) w.0 in
          steps a (frame_step (decode_table t) f a time frame fresh expected verdict) a_frame (said-done _ a _ F.answer) (made_of t a _ _ s F)
          (λ W z. subst (λ (p : Peer). Does (groups_in t) (limit_in t) (receive a time frame fresh expected verdict) p (frame_step (decode_table t) f a time frame fresh expected verdict)) q
          (frame-kind t a time frame fresh expected verdict f S (table-stock t s (receive a time frame fresh expected verdict) w.0) w.1 (subst Whole (sym q) W) (subst (λ (p : Peer). State p.run.state) (sym q) z)))

  due-ends : (time k : ℕ) → time < 2 ^ 32 → sound t ≡ true → due_slot (decode_table t) time ≡ Some k → Ends t (expire time)
  unfolding expires_by
  due-ends time k ht s e =
      go (finish-ends t (slot (decode_table t) k).address b six.0 six.1 (Some k) (clock_step (decode_table t) k time) G)
    where
      six : (length (slot (decode_table t) k).address ≡ 6) × Bytes (slot (decode_table t) k).address
      six = L.expire_address t time k b s e

      G : Good t (slot (decode_table t) k).address (Some k) (clock_step (decode_table t) k time)
      G = L.expire_good t time k b ht s e

      at : look_by (decode_table t) (Some k) ≡ look (decode_table t) (slot (decode_table t) k).address
      at = entered-look t (slot (decode_table t) k).address (Some k) G.came

      go : (finishes t (Some k) (clock_step (decode_table t) k time) (slot (decode_table t) k).address ≡ refuse t why.Full)
          ⊎ Finished t (slot (decode_table t) k).address (clock_step (decode_table t) k time)
          (finishes t (Some k) (clock_step (decode_table t) k time) (slot (decode_table t) k).address)
          → Ends t (expire time)
      go (inl q) = let r = refused-not why.Full t _ q in clock-idles t time _ (expires-due t time (Some k) s e) r.0 r.1
      go (inr F) =
          clock-steps t time _ (expires-due t time (Some k) s e) (slot (decode_table t) k).address (clock_step (decode_table t) k time)
          (said-done _ _ _ F.answer) (made_of t _ _ _ s F) (λ W z. subst (λ (p : Peer). Does (groups_in t) (limit_in t) (expire time) p (clock_step (decode_table t) k time)) at
          (clock-kind t time k (subst Whole (sym at) W) (subst (λ (p : Peer). State p.run.state) (sym at) z)))

  expire-ends : (time : ℕ) → time < 2 ^ 32 → Ends t (expire time)
  expire-ends time ht = go (sound t) refl
    where
      on : sound t ≡ true → (d : Option ℕ) → due_slot (decode_table t) time ≡ d → Ends t (expire time)
      on s None e = let r = nothing-done t time b s in clock-idles t time _ (expires-due t time None s e) r.0 r.1
      on s (Some k) e = due-ends time k ht s e

      go : (x : Bool) → sound t ≡ x → Ends t (expire time)
      go true s = on s (due_slot (decode_table t) time) refl
      go false s = clock-idles t time _ (expires-unsound t time s) (refused-done why.Unsound) refl

  pub call_ends : {c : Call} → CallHanded c → Ends t c
  call_ends (an_initialize bb ho hs) = initialize-ends _ _ _ _ bb ho hs
  call_ends (an_initiate ha ht hf) = initiate-ends _ _ _ ha ht hf
  call_ends (a_kill ha) = kill-ends _ ha
  call_ends (a_receive ha ht hr hf he hv) = receive-ends _ _ _ _ _ _ ha ht hr hf he hv
  call_ends (an_expire ht) = expire-ends _ ht
  call_ends (a_write hw) = write-ends t _
  call_ends a_fill = fill-ends t H
  call_ends (a_move ht) = move-ends t _ _ H.bytes
