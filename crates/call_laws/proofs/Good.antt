-- Every call's step is good: the record that it leaves fits, has its form, and is the call's address's if it is in use.
use mathlib.Core.Path.{◌≡◌, refl, sym, ap, ◌∙◌, subst}
use mathlib.Core.Bool.{Bool, true, false, not, ◌&&◌, ◌||◌}
use mathlib.Core.List.{List, [], ◌∷◌}
use Prim.Native.Nat.{ℕ, zero, suc, ◌+◌, ◌-◌, ◌*◌, ◌^◌, ◌≤◌, ◌<◌}
use native.Mathlib.Omega.{arith}
use lib.Dec.{eqb, ltb, lit<}
use lib.ListN.{length, drop, get_or, replicate, length-replicate, length-append}
use lib.Seq.{drop_at, get_or-take}
use borrow.Author.Tests.{eqb-true, eqb-false, eq-eqb, not-true, not-false}
use Rattle.std.specs.Prelude.{if◌then◌else◌, Option, Some, None, Result, Ok, Err}
use Rattle.octets.specs.Octets.{Bytes, all_zero, part}
use Rattle.octets.proofs.Laws.{length_part, bytes-part, bytes-append}
use Rattle.octets.proofs.Scan.{clash, and_left, and_right, and_both, first-at}
use Rattle.octets.proofs.Tests.{zero-zeros, same-address-refl}
use Rattle.groups.specs.Groups.{width, listed, commit_length, scalar_length, element_length, fresh_of, fresh_at, tails_ok, fresh_ok}
use Rattle.groups.proofs.Laws.{commit-fits, stored-length, stored-tail, stored_bytes, bytes-zeros}
use Rattle.frame.specs.Frame.{read_body, group_of, token_of, scalar_of, element_of, commit_of}
use Rattle.frame.specs.declared.Body.{Body}
use Rattle.frame.specs.declared.Body.TheVariants as body
use Rattle.frame.proofs.Shapes.{commit-shape, other-group-shape, token-request-shape, group-refusal-shape, confirm-shape, field_fits}
use Rattle.record.specs.declared.Peer.{Peer}
use Rattle.record.proofs.Laws.{form-width, form-groups}
use Rattle.record.specs.Layout.{form_in, width_in, groups_of, no_peer, decode_header, header_of, limit_of}
use Rattle.soundness.specs.Soundness.{usable, high_sync, commit_ok}
use Rattle.soundness.proofs.Laws.{Groups, SettingsForm, header-form, settings-form, header-limit, header-high, header-groups, header-width, header-count, listed-known, groups-length}
use Rattle.table.specs.Table.{Table, decode_table, slot, slots, belongs, finds, look_by, look, sound, entry}
use Rattle.table.proofs.Laws.{entry-found, found_below, sound-header, sound-peer, sound-whole, peers-held, none-holds}
use Rattle.table.proofs.Fit.{fit-slot, fit-decoded}
use Rattle.table.proofs.Kept.{sound-form, found-only}
use Rattle.rules.specs.Book.{◌is◌, has_run, Step, t0_due, t1_due, expired}
use Rattle.rules.specs.Asked.{NoRun}
use Rattle.message.specs.declared.View.{View}
use Rattle.message.specs.View.{view_of, view, stored_token, commit_in, message}
use Rattle.rule_laws.proofs.Keeps.{Place, Lists, Stock, stock-form, Heard, Kept, Keeps, kept_free, run-used, link-used, place_of}
use Rattle.rule_laws.proofs.Sound.{Handed, frame-keeps, begin-keeps, expire-keeps}
use Rattle.rule_laws.proofs.Slots.{start-refused, frame-unseated}
use Rattle.causes.specs.declared.Refusal.{Refusal}
use Rattle.causes.specs.declared.Refusal.TheVariants as why
use Rattle.answers.specs.Answers.{seating}
use Rattle.answers.proofs.Laws.{Entered, old, new, clashed}
use Rattle.answers.proofs.Theorems.{Good, found-address}
use Rattle.calls.specs.Calls.{full, terms_of, clock_of, fresh_in, brings, no_token, admit_start, start_turn, start_step, kill_turn, kill_step, admit_frame, frame_turn, frame_step, due_slot, clock_step}

-- ---- the table's own address, groups and highest Sync

abbrev pub own_in : List ℕ → List ℕ
own_in t = (decode_table t).header.own

abbrev pub groups_in : List ℕ → List ℕ
groups_in t = groups_of (decode_table t).header

-- one above its Sync limit
abbrev pub high_in : List ℕ → ℕ
high_in t = high_sync (decode_table t).header

module _ (t : List ℕ) (s : sound t ≡ true) where
  settings : SettingsForm (form_in (decode_table t).header) (decode_table t).header.settings
  settings = settings-form _ _ (header-form _ (sound-header t s)).settings

  three-groups : length (decode_table t).header.settings.groups ≡ 3
  unfolding decode_table decode_header header_of
  three-groups = refl

  listed-groups : Groups (form_in (decode_table t).header) (decode_table t).header.settings.count (decode_table t).header.settings.groups
  listed-groups = header-groups _ (sound-header t s)

  pub groups-count : length (groups_in t) ≡ (decode_table t).header.settings.count
  groups-count = groups-length _ _ _ (form-groups _) three-groups settings.groups

  -- the Sync limit is in its range, and so the highest Sync is in its octet's
  pub limit-of : (1 ≤ limit_of (decode_table t).header.settings.limit) × (limit_of (decode_table t).header.settings.limit ≤ 10)
  limit-of = header-limit _ (sound-header t s)

  pub high-low : high_in t < 256
  high-low = header-high _ (sound-header t s)

  pub sound-lists : Lists (groups_in t)
  sound-lists =
      let g = listed-groups in
      let n = groups-count in
      let m = header-count _ (sound-header t s) in
      record { few = omega (arith, n, m); known = listed-known _ (sound-header t s); once = g.once }

  -- the first group is a listed one
  pub first-listed : (0 < length (groups_in t)) × (get_or (groups_in t) 0 0 ≡ get_or (decode_table t).header.settings.groups 0 0)
  first-listed =
      let g = listed-groups in
      let n = groups-count in
      let m = g.some in
      (omega (arith, n, m), get_or-take _ _ _ _ m)

  module _ (b : Bytes t) where
    -- a record of a sound table is its own address's
    pub slot_kept : (k : ℕ) → k < slots (decode_table t) → Kept (own_in t) (groups_in t) (high_in t) (slot (decode_table t) k).address (slot (decode_table t) k)
    slot_kept k l =
        let h : k < length (decode_table t).peers = omega (arith, peers-held t (slots (decode_table t)) (sound-whole t s), l) in
        record { fits = fit-slot (decode_table t) k (fit-decoded t _ b (sound-whole t s)) h; form = sound-peer t s k l; place = λ d. refl }

-- ---- what a call that goes on knows

pub entered-sound : (t a : List ℕ) (f : Option ℕ) → Entered t a f → sound t ≡ true
entered-sound t a f (old {k} e) = (entry-found t a (Some k) e).0
entered-sound t a f (new e) = (entry-found t a None e).0

pub entered-usable : (t a : List ℕ) (f : Option ℕ) → Entered t a f → usable (own_in t) a ≡ true
entered-usable t a f (old {k} e) = (entry-found t a (Some k) e).1.0
entered-usable t a f (new e) = (entry-found t a None e).1.0

module _ (t a : List ℕ) (b : Bytes t) (la : length a ≡ 6) (ba : Bytes a) where
  pub entered-place : (f : Option ℕ) → Entered t a f → Place (own_in t) a
  entered-place f e = record { six = la; bytes = ba; usable = entered-usable t a f e }

  -- the record that was found is the address's, or a free one
  pub entered-kept : (f : Option ℕ) → Entered t a f → Kept (own_in t) (groups_in t) (high_in t) a (look_by (decode_table t) f)
  unfolding look_by
  entered-kept f (old {k} e) =
      let x = found-address t a k b la ba e in
      let w = entry-found t a (Some k) e in
      subst (λ (c : List ℕ). Kept (own_in t) (groups_in t) (high_in t) c (slot (decode_table t) k)) x.1 (slot_kept t w.0 b k (found_below (decode_table t) a k w.1.1).0)
  entered-kept f (new e) = kept_free (own_in t) (groups_in t) (high_in t) a

-- and is what the address finds
pub entered-look : (t a : List ℕ) (f : Option ℕ) → Entered t a f → look_by (decode_table t) f ≡ look (decode_table t) a
unfolding look
entered-look t a f (old {k} e) = ap (look_by (decode_table t)) (sym (entry-found t a (Some k) e).1.1)
entered-look t a f (new e) = ap (look_by (decode_table t)) (sym (entry-found t a None e).1.1)

-- a step that keeps the form is good
pub good_of : (t a : List ℕ) (f : Option ℕ) (s : Step) → Entered t a f → Keeps (own_in t) (groups_in t) (high_in t) a s → (seating (decode_table t) f ≡ None → s.refused ≡ false → s.peer ≡ no_peer)
    → Good t a f s
good_of t a f s e k n =
    record { came = e; fits = k.kept.fits; form = k.kept.form; own = λ u. let z : s.peer.used ≡ 1 = eqb-true _ _ u in k.kept.place (λ q. omega arith); stays = n }

-- without a slot the record is the free one, and the rules are told so
pub unseated : (T : Table) (f : Option ℕ) → seating T f ≡ None → (look_by T f ≡ no_peer) × ((terms_of T f).full ≡ true)
unfolding seating look_by full
unseated T (Some k) e = let z : ◌≡◌ {A = ℕ} 0 1 = cc in absurd (omega arith)
unseated T None e = (refl, rw e refl)

-- ---- the stock

tails-each : (gs : List ℕ) (i : ℕ) (fresh : List (List ℕ)) → tails_ok gs i fresh ≡ true → (j : ℕ) → j < length gs → commit_ok (get_or gs j 0) (fresh_at fresh (i + j)) ≡ true
unfolding tails_ok commit_ok
tails-each [] i fresh e j h = absurd (omega arith)
tails-each (g ∷ gs) i fresh e zero h = let z : i + 0 ≡ i = omega arith in rw z (and_left _ _ e)
tails-each (g ∷ gs) i fresh e (suc j) h =
    let z : i + suc j ≡ suc i + j = omega arith in
    rw z (tails-each gs (suc i) fresh (and_right (all_zero (drop (commit_length g) (fresh_at fresh i))) _ e) j (omega arith))

pub commits-stock : (W : ℕ) (gs fresh : List ℕ) → 1 ≤ W → W ≤ width → Bytes fresh → fresh_ok W gs fresh ≡ true → Stock gs (fresh_of W fresh)
unfolding fresh_ok
commits-stock W gs fresh p m b e =
    stock-form W gs fresh p m (eqb-true _ _ (and_left _ _ e)) b
    (λ i h.
    let z : 0 + i ≡ i = omega arith in
    subst (λ (k : ℕ). commit_ok (get_or gs i 0) (fresh_at (fresh_of W fresh) k) ≡ true) z (tails-each gs 0 (fresh_of W fresh) (and_right (eqb (length fresh) (W * length gs)) _ e) i h))

-- of a sound table: its width stores something, and has room for every value
table-stock : (t fresh : List ℕ) → sound t ≡ true → Bytes fresh → fresh_ok (width_in (decode_table t).header) (groups_in t) fresh ≡ true → Stock (groups_in t) (fresh_in (decode_table t).header fresh)
table-stock t fresh s b e =
    let w = header-width (decode_table t).header (sound-header t s) in
    commits-stock (width_in (decode_table t).header) (groups_in t) fresh (omega (arith, w)) (form-width _) b e

-- ---- what the rules see of a frame

-- what is known of a view, whatever the shape
pub record Viewed (gs frame : List ℕ) (v : View) : Type 0 where
  pub group : v.group < 65536
  pub counter : v.counter < 65536
  pub short : v.toklen ≤ 256
  pub token : length (token_of frame v.toklen) ≡ v.toklen
  pub offer : v.listed ≡ true → (listed gs v.group ≡ true) × (length frame ≡ 8 + v.toklen + commit_length v.group)

module _ (gs frame : List ℕ) (b : Bytes frame) where
  -- a Commit or a Confirm without a token
  bare : (v : View) → v.group < 65536 → v.counter < 65536 → v.toklen ≡ 0 → v.listed ≡ false → Viewed gs frame v
  unfolding token_of part
  bare v g n z l = record { group = g; counter = n; short = omega arith; token = rw z refl; offer = λ e. absurd (clash e l) }

  held : (g : ℕ) → group_of frame ≡ g → g < 65536
  held g e = subst (λ (x : ℕ). x < 65536) e (field_fits frame 6 b)

  viewed_by : (B : Option Body) → read_body gs frame ≡ B → Viewed gs frame (view_of B)
  unfolding token_of
  viewed_by (Some (body.Commit g n)) e =
      let w = commit-shape gs frame g n e in
      record { group = held g w.group; counter = lit< tt; short = w.token; token = length_part frame 8 n (omega (arith, w.total)); offer = λ q. (w.supported, w.total) }
  viewed_by (Some (body.Unsupported g)) e = bare _ (held g (other-group-shape gs frame g e).group) (lit< tt) refl refl
  viewed_by (Some (body.TokenRequest g n)) e =
      let w = token-request-shape gs frame g n e in
      record { group = held g w.group; counter = lit< tt; short = w.token; token = length_part frame 8 n (omega (arith, w.total)); offer = λ q. absurd (clash q refl) }
  viewed_by (Some (body.GroupRefusal g)) e = bare _ (held g (group-refusal-shape gs frame g e).group) (lit< tt) refl refl
  viewed_by (Some (body.OtherCommit s)) e = bare _ (lit< tt) (lit< tt) refl refl
  viewed_by (Some (body.Confirm n)) e = bare _ (lit< tt) (held n (confirm-shape gs frame n e).counter) refl refl
  viewed_by (Some (body.OtherConfirm s)) e = bare _ (lit< tt) (lit< tt) refl refl
  viewed_by None e = bare _ (lit< tt) (lit< tt) refl refl

  pub viewed : Viewed gs frame (view gs frame)
  unfolding view
  viewed = viewed_by (read_body gs frame) refl

-- a commit as it is stored
module _ (s : List ℕ) (g n : ℕ) where
  commit-length : length s ≡ 8 + n + commit_length g → length (commit_of s g n) ≡ commit_length g
  unfolding commit_of scalar_of element_of commit_length
  commit-length h = simp length-append (omega (arith, length_part s (8 + n) (scalar_length g) (omega arith), length_part s (8 + n + scalar_length g) (element_length g) (omega arith)))

  commit-bytes : Bytes s → Bytes (commit_of s g n)
  unfolding commit_of scalar_of element_of
  commit-bytes b = bytes-append (part s (8 + n) (scalar_length g)) (part s (8 + n + scalar_length g) (element_length g)) (bytes-part s (8 + n) (scalar_length g) b) (bytes-part s (8 + n + scalar_length g) (element_length g) b)

  in-long : (l : Bool) → (l ≡ true → length s ≡ 8 + n + commit_length g) → length (commit_in s l g n) ≡ width
  unfolding commit_in
  in-long true h = let e = commit-length (h refl) in let c = commit-fits g in stored-length (commit_of s g n) (omega arith)
  in-long false h = length-replicate {A = ℕ} width 0

  in_bytes : (l : Bool) → Bytes s → Bytes (commit_in s l g n)
  unfolding commit_in
  in_bytes true b = stored_bytes (commit_of s g n) (commit-bytes b)
  in_bytes false b = bytes-zeros width

  in_tail : (l : Bool) → length s ≡ 8 + n + commit_length g → l ≡ true → commit_ok g (commit_in s l g n) ≡ true
  unfolding commit_in commit_ok
  in_tail true h e = stored-tail (commit_of s g n) (commit_length g) (commit-length h)
  in_tail false h e = absurd (clash e refl)

-- a token as it is stored
module _ (token : List ℕ) (n : ℕ) (e : length token ≡ n) (h : n ≤ 256) where
  token-length : length (stored_token token) ≡ 256
  unfolding stored_token
  token-length = simp length-append (rw (length-replicate {A = ℕ} (256 - length token) 0) (omega arith))

  token-rest : all_zero (drop n (stored_token token)) ≡ true
  unfolding stored_token
  token-rest = rw (drop_at token _ n e) (zero-zeros (256 - length token))

  token-bytes : Bytes token → Bytes (stored_token token)
  unfolding stored_token
  token-bytes b = bytes-append token (replicate (256 - length token) 0) b (bytes-zeros (256 - length token))

pub view-heard : (gs frame : List ℕ) → Bytes frame → Heard gs (message gs frame)
unfolding message token_of
view-heard gs frame b =
    let v = view gs frame in
    let w = viewed gs frame b in
    record {
      group = λ e. (w.offer e).0;
      long = in-long frame v.group v.toklen v.listed (λ e. (w.offer e).1);
      bytes = in_bytes frame v.group v.toklen v.listed b;
      tail = λ e. in_tail frame v.group v.toklen v.listed (w.offer e).1 e;
      short = w.short;
      token = token-length _ v.toklen w.token w.short;
      octets = token-bytes _ v.toklen w.token w.short (bytes-part frame 8 v.toklen b);
      rest = token-rest _ v.toklen w.token w.short;
    }

-- ---- who goes on

pub go_same : {f g : Option ℕ} → ◌≡◌ {A = Result (Option ℕ) Refusal} (Ok f) (Ok g) → f ≡ g
go_same e = cc

-- a refusal's branch was not taken
pub past : (b : Bool) (c : Refusal) (x : Result (Option ℕ) Refusal) (f : Option ℕ) → (if b then Err c else x) ≡ Ok f → (b ≡ false) × (x ≡ Ok f)
past true c x f e = clashed e
past false c x f e = (refl, e)

pub admit-start : (T : Table) (g : Option ℕ) (fresh : List ℕ) (f : Option ℕ) → admit_start T g fresh ≡ Ok f
    → (g ≡ f) × (fresh_ok (width_in T.header) (groups_of T.header) fresh ≡ true) × ((look_by T f).run.state ≡ 0)
unfolding admit_start
admit-start T g fresh f e =
    let a = past (not (fresh_ok (width_in T.header) (groups_of T.header) fresh)) why.Fresh (if has_run (look_by T g) then Err why.Running else Ok g) f e in
    let b = past (has_run (look_by T g)) why.Running (Ok g) f a.1 in
    (go_same b.1, not-false _ a.0, subst (λ (x : Option ℕ). (look_by T x).run.state ≡ 0) (go_same b.1) (eqb-true _ _ (not-false _ b.0)))

pub admit-frame : (T : Table) (g : Option ℕ) (frame fresh expected : List ℕ) (verdict : ℕ) (f : Option ℕ) → admit_frame T g frame fresh expected verdict ≡ Ok f
    → (g ≡ f) × (fresh_ok (width_in T.header) (groups_of T.header) fresh ≡ true)
unfolding admit_frame
admit-frame T g frame fresh expected verdict f e =
    let a = past (not (fresh_ok (width_in T.header) (groups_of T.header) fresh)) why.Fresh _ f e in
    let b = past (not (eqb (length expected) 32)) why.Token _ f a.1 in
    let c = past (ltb 1 verdict) why.Verdict _ f b.1 in
    let d = past ((view (groups_of T.header) frame).sequence is 0) why.Body (Ok g) f c.1 in
    (go_same d.1, not-false _ a.0)

module _ (t a : List ℕ) where
  pub start-entered : (fresh : List ℕ) (E : Result (Option ℕ) Refusal) (f : Option ℕ) → entry t a ≡ E → start_turn E t fresh ≡ Ok f
      → Entered t a f × (fresh_ok (width_in (decode_table t).header) (groups_in t) fresh ≡ true) × ((look_by (decode_table t) f).run.state ≡ 0)
  unfolding start_turn
  start-entered fresh (Err r) f q e = clashed e
  start-entered fresh (Ok None) f q e = let w = admit-start (decode_table t) None fresh f e in (subst (Entered t a) w.0 (new q), w.1, w.2)
  start-entered fresh (Ok (Some k)) f q e = let w = admit-start (decode_table t) (Some k) fresh f e in (subst (Entered t a) w.0 (old q), w.1, w.2)

  pub kill-entered : (E : Result (Option ℕ) Refusal) (f : Option ℕ) → entry t a ≡ E → kill_turn E ≡ Ok f → Entered t a f
  unfolding kill_turn
  kill-entered (Err r) f q e = clashed e
  kill-entered (Ok None) f q e = clashed e
  kill-entered (Ok (Some k)) f q e = subst (Entered t a) (go_same e) (old q)

  pub frame-entered : (frame fresh expected : List ℕ) (verdict : ℕ) (E : Result (Option ℕ) Refusal) (f : Option ℕ) → entry t a ≡ E → frame_turn E t frame fresh expected verdict ≡ Ok f
      → Entered t a f × (fresh_ok (width_in (decode_table t).header) (groups_in t) fresh ≡ true)
  unfolding frame_turn
  frame-entered frame fresh expected verdict (Err r) f q e = clashed e
  frame-entered frame fresh expected verdict (Ok None) f q e =
      let w = admit-frame (decode_table t) None frame fresh expected verdict f e in (subst (Entered t a) w.0 (new q), w.1)
  frame-entered frame fresh expected verdict (Ok (Some k)) f q e =
      let w = admit-frame (decode_table t) (Some k) frame fresh expected verdict f e in (subst (Entered t a) w.0 (old q), w.1)

-- ---- Good for every call

pub no-run : (p : Peer) → p.run.state ≡ 0 → NoRun p
no-run p e = record { not_committed = λ q. omega arith; not_confirmed = λ q. omega arith }

-- Start
pub initiate_good : (t a : List ℕ) (time : ℕ) (fresh : List ℕ) (f : Option ℕ) → Bytes t → length a ≡ 6 → Bytes a → time < 2 ^ 32 → Bytes fresh
    → start_turn (entry t a) t fresh ≡ Ok f → Good t a f (start_step (decode_table t) f a time fresh)
unfolding start_step
initiate_good t a time fresh f b la ba ht bf e =
    let w = start-entered t a fresh (entry t a) f refl e in
    let s = entered-sound t a f w.0 in
    let T = terms_of (decode_table t) f in
    let C = brings a (clock_of (decode_table t).header time) (fresh_in (decode_table t).header fresh) no_token false in
    good_of t a f _ w.0
    (begin-keeps T C (look_by (decode_table t) f) (entered-place t a b la ba f w.0) (sound-lists t s) (first-listed t s).0 (high-low t s) (entered-kept t a b la ba f w.0)
    (table-stock t fresh s bf w.1) (no-run _ w.2))
    (λ v n. absurd (clash (start-refused T C (look_by (decode_table t) f) ∙ (unseated (decode_table t) f v).1) n))

-- Kill
pub kill_good : (t a : List ℕ) (f : Option ℕ) → Bytes t → length a ≡ 6 → Bytes a → kill_turn (entry t a) ≡ Ok f → Good t a f kill_step
unfolding kill_step
kill_good t a f b la ba e = good_of t a f _ (kill-entered t a (entry t a) f refl e) (record { kept = kept_free (own_in t) (groups_in t) (high_in t) a }) (λ v n. refl)

-- Frame received
pub receive_good : (t a : List ℕ) (time : ℕ) (frame fresh expected : List ℕ) (verdict : ℕ) (f : Option ℕ) → Bytes t → length a ≡ 6 → Bytes a → time < 2 ^ 32
    → Bytes frame → Bytes fresh → Bytes expected → verdict < 2 ^ 8
    → frame_turn (entry t a) t frame fresh expected verdict ≡ Ok f → Good t a f (frame_step (decode_table t) f a time frame fresh expected verdict)
unfolding frame_step message
receive_good t a time frame fresh expected verdict f b la ba ht br bf be hv e =
    let w = frame-entered t a frame fresh expected verdict (entry t a) f refl e in
    let s = entered-sound t a f w.0 in
    let T = terms_of (decode_table t) f in
    let C = brings a (clock_of (decode_table t).header time) (fresh_in (decode_table t).header fresh) expected (verdict is 1) in
    let p = look_by (decode_table t) f in
    let m = message (groups_in t) frame in
    let h : Handed T C m = record {
      place = entered-place t a b la ba f w.0;
      lists = sound-lists t s;
      some = (first-listed t s).0;
      heard = view-heard (groups_in t) frame br;
      counter = (viewed (groups_in t) frame br).counter;
      low = high-low t s;
    } in
    good_of t a f _ w.0 (frame-keeps T C p m h (entered-kept t a b la ba f w.0) (table-stock t fresh s bf w.1))
    (λ v n. let u = unseated (decode_table t) f v in frame-unseated T C p m u.0 u.1 n)

-- Clock: the record that is due is in use
module _ (t : List ℕ) (time k : ℕ) (b : Bytes t) (s : sound t ≡ true) (e : due_slot (decode_table t) time ≡ Some k) where
  pub due_below : (k < slots (decode_table t)) × (expired (slot (decode_table t) k) time ≡ true)
  unfolding due_slot
  due_below = first-at (λ j. expired (slot (decode_table t) j) time) (slots (decode_table t)) k e

  pub due-kept : Kept (own_in t) (groups_in t) (high_in t) (slot (decode_table t) k).address (slot (decode_table t) k)
  due-kept = slot_kept t s b k due_below.0

  pub due-used : (slot (decode_table t) k).used ≡ 1
  unfolding expired t0_due t1_due
  due-used = go (not (eqb (slot (decode_table t) k).run.state 0)) (not (eqb (slot (decode_table t) k).link.finished 0)) _ _ refl refl due_below.1
    where
      go : (x y u v : Bool) → not (eqb (slot (decode_table t) k).run.state 0) ≡ x → not (eqb (slot (decode_table t) k).link.finished 0) ≡ y → ((x && u) || (y && v)) ≡ true
          → (slot (decode_table t) k).used ≡ 1
      go true y u v p q z = run-used (own_in t) (groups_in t) (high_in t) _ _ due-kept (eqb-false _ _ (not-true _ p))
      go false true u v p q z = link-used (own_in t) (groups_in t) (high_in t) _ _ due-kept (eqb-false _ _ (not-true _ q))
      go false false u v p q z = absurd (clash z refl)

  -- the search for its address finds it
  due-holds : belongs (slot (decode_table t) k).address (slot (decode_table t) k) ≡ true
  unfolding belongs
  due-holds = and_both _ _ (eq-eqb _ _ due-used) (same-address-refl (slot (decode_table t) k).address)

  due-found : (g : Option ℕ) → finds (decode_table t) (slot (decode_table t) k).address ≡ g → g ≡ Some k
  due-found (Some j) q = ap Some (sym (found-only (decode_table t) _ j k (sound-form t s) q due_below.0 due-holds))
  due-found None q = absurd (clash due-holds (none-holds (decode_table t) _ q k due_below.0))

  pub due-place : Place (own_in t) (slot (decode_table t) k).address
  due-place = place_of (own_in t) (groups_in t) (high_in t) _ _ due-kept due-used

  pub due-entry : entry t (slot (decode_table t) k).address ≡ Ok (Some k)
  unfolding entry
  due-entry = let q = due-found (finds (decode_table t) (slot (decode_table t) k).address) refl in rw (s, due-place.usable, q)

  pub expire_address : (length (slot (decode_table t) k).address ≡ 6) × Bytes (slot (decode_table t) k).address
  expire_address = (due-kept.fits.address, due-kept.fits.bytes)

pub expire_good : (t : List ℕ) (time k : ℕ) → Bytes t → time < 2 ^ 32 → sound t ≡ true → due_slot (decode_table t) time ≡ Some k
    → Good t (slot (decode_table t) k).address (Some k) (clock_step (decode_table t) k time)
unfolding clock_step seating
expire_good t time k b ht s e =
    good_of t (slot (decode_table t) k).address (Some k) _ (old (due-entry t time k b s e))
    (expire-keeps (terms_of (decode_table t) (Some k)) (brings (slot (decode_table t) k).address (clock_of (decode_table t).header time) [] no_token false)
    (slot (decode_table t) k) (due-place t time k b s e) (sound-lists t s) (first-listed t s).0 (high-low t s) (due-kept t time k b s e))
    (λ v n. let z : ◌≡◌ {A = ℕ} 0 1 = cc in absurd (omega arith))
