-- Laws of the writer: what each function's cases show of their definitions.
use Rattle.std.specs.Prelude.{Result, Err, Option, Some, None, Ok}
use mathlib.Core.Path.{◌≡◌, refl, sym, ap, ◌∙◌, subst}
use mathlib.Core.Bool.{true}
use mathlib.Core.List.{List}
use mathlib.Core.Logic.{inl, inr}
use Prim.Native.Nat.{ℕ, ◌+◌, ◌-◌, ◌≤◌}
use native.Mathlib.Omega.{arith}
use lib.ListN.{length, take, drop}
use borrow.Author.Tests.{eqb-true, eq-eqb, ne_eqb}
use Rattle.octets.specs.Octets.{part}
use Rattle.octets.proofs.Laws.{length_part}
use Rattle.octets.proofs.Scan.{and_left}
use Rattle.groups.specs.Groups.{width, commit_length, stored, listed}
use Rattle.groups.proofs.Laws.{part-stored}
use Rattle.frame.specs.Writing.{Drawn, draw_commit, draw_confirm, parts_body, Writes}
use Rattle.frame.proofs.Laws.{outside, drawn}
use Rattle.record.specs.declared.Header.{Header}
use Rattle.record.specs.declared.Peer.{Peer}
use Rattle.record.specs.Layout.{decode_peer, record_size, record_at, groups_of, width_in}
use Rattle.record.proofs.Windows.{token-law}
use Rattle.soundness.specs.Soundness.{high_sync}
use Rattle.soundness.proofs.Laws.{header-count, InUse, peer-in-use, run-states, run-is-committed, run-is-confirmed}
use Rattle.soundness.proofs.Storable.{header-room}
use Rattle.table.specs.Table.{decode_table, slot, entry, checked, entering, belongs, Reached, Looked, Enters}
use Rattle.table.specs.declared.Entrance.{Entrance}
use Rattle.table.proofs.Laws.{entry-found, unsound, enters-refused, sound-header, sound-peer, found_below, reached}
use Rattle.table.proofs.Octets.{window-law, window-length}
use Rattle.causes.specs.declared.Refusal.{Refusal}
use Rattle.causes.specs.declared.Refusal.TheVariants as why
use Rattle.writer.specs.Writer.{LeavesOut, draws, writes_parts, record_commit, record_confirm, record_body, Bounded, writes_record_by, writes_record}

-- ---- what is answered

pub drawn-out : (d : Drawn) (given left : List ℕ) (r : Result ℕ Refusal) → Writes d given left r → LeavesOut r left (draws d given)
unfolding draws
drawn-out d given left r l = record { answer = l.answers; out = l.left_as }

-- ---- the header of a sound table

pub few : (t : List ℕ) (h : Header) → Looked t h → h.settings.count ≤ 3
few t h L = rw L.header (header-count _ (sound-header t L.whole))

-- ---- from a frame's parts

module _ (t : List ℕ) (q x g n : ℕ) (token rest out : List ℕ) where
  pub parts-refused : (c : Refusal) (r : Result ℕ Refusal) → r ≡ Err c → checked t ≡ Err c → LeavesOut r out (writes_parts t q x g n token rest out)
  unfolding writes_parts
  parts-refused c r k e = let u = unsound t c e in rw u.0 (record { answer = k ∙ ap Err u.1; out = refl })

  pub parts-drawn : (h : Header) (left : List ℕ) (r : Result ℕ Refusal) → Looked t h → (gs : List ℕ) → gs ≡ groups_of h
      → Writes (parts_body gs q x g n token rest) out left r → LeavesOut r left (writes_parts t q x g n token rest out)
  unfolding writes_parts
  parts-drawn h left r L gs eg l =
      let m : Writes (parts_body (groups_of (decode_table t).header) q x g n token rest) out left r =
      subst (λ (y : List ℕ). Writes (parts_body y q x g n token rest) out left r) (eg ∙ ap groups_of L.header) l in
      rw L.whole (drawn-out _ out left r m)

-- ---- from a record: its Commit, its Confirm, from the fields as they are read

-- as many octets as a run's token and its group's commit have lie in the record
module _ (s : List ℕ) (W : ℕ) (h : length s ≡ record_size W) (B : Bounded (decode_peer W s) W) (state : ℕ) (es : state ≡ (decode_peer W s).run.state) (d : state ≡ 0 → ⊥) where
  pub token-held : (m : ℕ) (token : List ℕ) → m ≡ (decode_peer W s).run.toklen → token ≡ (decode_peer W s).run.token → m ≤ length token
  token-held m token em et =
      let l : length token ≡ 256 = ap length (et ∙ token-law W s) ∙ length_part s (7 + (13 + W + W)) 256 (omega (arith, h)) in
      omega (arith, em, l, B.token (λ z. d (es ∙ z)))

  pub own_held : (g n : ℕ) (own : List ℕ) → g ≡ (decode_peer W s).run.group → n ≡ commit_length g → length own ≡ W → n ≤ length own
  own_held g n own eg en l =
      let f : commit_length g ≤ W = rw eg (B.own (λ z. d (es ∙ z))) in
      omega (arith, en, f, l)

module _ (gs : List ℕ) (p : Peer) (out : List ℕ) (state : ℕ) (es : state ≡ p.run.state) where
  pub commit-none : state ≡ 0 → Writes (record_commit gs p) out out (Err why.Body)
  unfolding record_commit
  commit-none e = outside _ out (rw (eq-eqb p.run.state 0 (sym es ∙ e)))

  -- of the stored commit as many octets as the group has are those of the value
  pub commit-run : (g m n : ℕ) (token own left : List ℕ) (w : Result ℕ Refusal) → (state ≡ 0 → ⊥) → g ≡ p.run.group → m ≡ p.run.toklen → token ≡ p.run.token
      → n ≡ commit_length g → n ≤ length own → stored own ≡ p.run.own → Writes (draw_commit gs g (take m token) (take n own)) out left w → Writes (record_commit gs p) out left w
  unfolding record_commit part
  commit-run g m n token own left w d eg em et en h eo l =
      let o : take n p.run.own ≡ take n own = ap (take n) (sym eo) ∙ part-stored own n h in
      drawn _ _ out left w (rw (ne_eqb p.run.state 0 (λ z. d (es ∙ z)), ← eg, ← em, ← et, ← en, o)) l

module _ (p : Peer) (value out : List ℕ) (state : ℕ) (es : state ≡ p.run.state) where
  pub confirm-run : (sc : ℕ) (left : List ℕ) (w : Result ℕ Refusal) → state ≡ 2 → sc ≡ p.run.sc → Writes (draw_confirm sc value) out left w → Writes (record_confirm p value) out left w
  unfolding record_confirm
  confirm-run sc left w e q l = drawn _ _ out left w (rw (eq-eqb p.run.state 2 (sym es ∙ e), ← q)) l

  pub confirm-early : (state ≡ 2 → ⊥) → (state ≡ 0 → ⊥) → Writes (record_confirm p value) out out (Err why.Body)
  unfolding record_confirm
  confirm-early d e = outside _ out (rw (ne_eqb p.run.state 2 (λ z. d (es ∙ z)), ne_eqb p.run.state 0 (λ z. e (es ∙ z))))

  module _ (e : state ≡ 0) (finished : ℕ) (ef : finished ≡ p.link.finished) where
    pub confirm-link : (left : List ℕ) (w : Result ℕ Refusal) → (finished ≡ 0 → ⊥) → Writes (draw_confirm 65535 value) out left w → Writes (record_confirm p value) out left w
    unfolding record_confirm
    confirm-link left w d l =
        drawn _ _ out left w (rw (ne_eqb p.run.state 2 (omega (arith, es, e)), eq-eqb p.run.state 0 (sym es ∙ e), ne_eqb p.link.finished 0 (λ z. d (ef ∙ z)))) l

    pub confirm-none : finished ≡ 0 → Writes (record_confirm p value) out out (Err why.Body)
    unfolding record_confirm
    confirm-none d =
        outside _ out (rw (ne_eqb p.run.state 2 (omega (arith, es, e)), eq-eqb p.run.state 0 (sym es ∙ e), eq-eqb p.link.finished 0 (sym ef ∙ d)))

module _ (gs : List ℕ) (p : Peer) (q : ℕ) (value out : List ℕ) where
  pub body-commit : (left : List ℕ) (w : Result ℕ Refusal) → q ≡ 1 → Writes (record_commit gs p) out left w → Writes (record_body gs p q value) out left w
  unfolding record_body
  body-commit left w e l = drawn _ _ out left w (rw (eq-eqb q 1 e)) l

  pub body-confirm : (left : List ℕ) (w : Result ℕ Refusal) → (q ≡ 1 → ⊥) → q ≡ 2 → Writes (record_confirm p value) out left w → Writes (record_body gs p q value) out left w
  unfolding record_body
  body-confirm left w d e l = drawn _ _ out left w (rw (ne_eqb q 1 d, eq-eqb q 2 e)) l

  pub body-neither : (q ≡ 1 → ⊥) → (q ≡ 2 → ⊥) → Writes (record_body gs p q value) out out (Err why.Body)
  unfolding record_body
  body-neither d e = outside _ out (rw (ne_eqb q 1 d, ne_eqb q 2 e))

-- ---- from a record: the call

-- the record of an address in a sound table
pub in-use-at : (t a : List ℕ) (k : ℕ) → entry t a ≡ Ok (Some k) → InUse (decode_table t).header.own (groups_of (decode_table t).header) (high_sync (decode_table t).header) (slot (decode_table t) k)
unfolding belongs
in-use-at t a k e =
    let w = entry-found t a (Some k) e in
    let f = found_below (decode_table t) a k w.1.1 in
    let u : (slot (decode_table t) k).used ≡ 1 = eqb-true _ _ (and_left _ _ f.1) in
    peer-in-use _ _ _ _ (λ z. omega arith) (sound-peer t w.0 k f.0)

-- what a run of it names: a listed group, and a token of at most 256 octets
pub run-names : (own gs : List ℕ) (high : ℕ) (p : Peer) → InUse own gs high p → (p.run.state ≡ 0 → ⊥) → (listed gs p.run.group ≡ true) × (p.run.toklen ≤ 256)
run-names own gs high p u d = elim (run-states gs high p.run u.run) [
  | inl z ↦ absurd (d z)
  | inr y ↦ elim y [
    | inl z ↦ let w = run-is-committed gs high p.run z u.run in (w.listed, w.token.short)
    | inr z ↦ let w = run-is-confirmed gs high p.run z u.run in (w.listed, w.token.short)
  ]
]

pub none-found : (f : Option ℕ) → ((k : ℕ) → f ≡ Some k → ⊥) → f ≡ None
none-found None d = refl
none-found (Some k) d = absurd (d k refl)

module _ (t a : List ℕ) (q : ℕ) (value out : List ℕ) where
  pub record-refused : (c : Refusal) (r : Result ℕ Refusal) → r ≡ Err c → entering t a ≡ Err c → LeavesOut r out (writes_record t a q value out)
  unfolding writes_record writes_record_by
  record-refused c r k e = rw (enters-refused t a c e) (record { answer = k; out = refl })

  pub record-absent : (r : Entrance) → Enters r t a → r.slot ≡ None → LeavesOut (Err why.Body) out (writes_record t a q value out)
  unfolding writes_record writes_record_by
  record-absent r E k = rw (E.entry ∙ ap Ok k) (record { answer = refl; out = refl })

module _ (t a : List ℕ) (r : Entrance) (E : Enters r t a) (k : ℕ) (at : r.slot ≡ Some k) where
  here : entry t a ≡ Ok (Some k)
  here = E.entry ∙ ap Ok at

  module _ (w : ℕ) (W : (w ≡ width_in r.header) × (w ≤ width)) where
    pub at-reached : Reached t w k
    at-reached = reached t r.header w k E.looked.whole E.looked.header W.0 W.1 (found_below (decode_table t) a k (entry-found t a (Some k) here).1.1).0

    roomy : (g : ℕ) → listed (groups_of (decode_table t).header) g ≡ true → commit_length g ≤ w
    roomy g l = rw (W.0, E.looked.header) ((header-room _ (sound-header t E.looked.whole)).each g l)

    -- the window of its octets, as it is lent
    module _ (b n : ℕ) (eb : b ≡ record_at w k) (en : n ≡ record_size w) where
      in_window : decode_peer w (take (b + n - b) (drop b t)) ≡ slot (decode_table t) k
      in_window = window-law t w k b at-reached eb n en

      pub at-whole : length (take (b + n - b) (drop b t)) ≡ record_size w
      at-whole = window-length t w k b at-reached eb n en

      pub at-bounded : Bounded (decode_peer w (take (b + n - b) (drop b t))) w
      at-bounded =
          let u : ((slot (decode_table t) k).run.state ≡ 0 → ⊥) → (listed (groups_of (decode_table t).header) (slot (decode_table t) k).run.group ≡ true) × ((slot (decode_table t) k).run.toklen ≤ 256) =
          run-names _ _ _ _ (in-use-at t a k here) in
          record {
            token = subst (λ (x : Peer). (x.run.state ≡ 0 → ⊥) → x.run.toklen ≤ 256) (sym in_window) (λ d. (u d).1);
            own = subst (λ (x : Peer). (x.run.state ≡ 0 → ⊥) → commit_length x.run.group ≤ w) (sym in_window) (λ d. roomy _ (u d).0);
          }

      pub record-drawn : (q : ℕ) (value out left : List ℕ) (y : Result ℕ Refusal) (gs : List ℕ) → gs ≡ groups_of r.header
          → Writes (record_body gs (decode_peer w (take (b + n - b) (drop b t))) q value) out left y → LeavesOut y left (writes_record t a q value out)
      unfolding writes_record writes_record_by
      record-drawn q value out left y gs eg l =
          let l1 : Writes (record_body (groups_of (decode_table t).header) (decode_peer w (take (b + n - b) (drop b t))) q value) out left y =
          subst (λ (x : List ℕ). Writes (record_body x (decode_peer w (take (b + n - b) (drop b t))) q value) out left y) (eg ∙ ap groups_of E.looked.header) l in
          let l2 : Writes (record_body (groups_of (decode_table t).header) (slot (decode_table t) k) q value) out left y =
          subst (λ (x : Peer). Writes (record_body (groups_of (decode_table t).header) x q value) out left y) in_window l1 in
          rw here (drawn-out _ out left y l2)
