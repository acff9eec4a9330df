-- What holds of every call of the writer: a refusal leaves the buffer, each cause has its number and its place in the order, and what a record has is
-- written and reads back.
use mathlib.Core.Path.{◌≡◌, refl, sym, ap, ◌∙◌}
use mathlib.Core.Bool.{Bool, true, false, not}
use mathlib.Core.List.{List, []}
use Prim.Native.Nat.{ℕ, ◌+◌, ◌≤◌, ◌<◌}
use native.Mathlib.Omega.{arith}
use lib.Dec.{ltb}
use lib.ListN.{length, take}
use lib.Seq.{length-take-le}
use borrow.Author.Tests.{le-ltb, eq-eqb, ne_eqb, ltb-true, ltb-false}
use Rattle.octets.specs.Octets.{put, Bytes}
use Rattle.std.specs.Prelude.{if◌then◌else◌, Option, Some, None, Ok, Err}
use Rattle.groups.specs.Groups.{width, commit_length, listed}
use Rattle.groups.proofs.Laws.{commit-fits}
use Rattle.frame.specs.Frame.{read_body, token_of, commit_of, value_of, commit_body, confirm_body}
use Rattle.frame.specs.declared.Body.TheVariants as body_is
use Rattle.frame.specs.Writing.{Drawn, Octets, Outside, draw_commit, draw_confirm, parts_body, written, leaves}
use Rattle.frame.proofs.Laws.{length-body}
use Rattle.frame.proofs.RoundTrip.{commit-reads, commit-token-back, commit_back, confirm-reads, confirm-back}
use Rattle.record.specs.declared.Peer.{Peer}
use Rattle.record.specs.Layout.{record_at, groups_of}
use Rattle.record.proofs.Laws.{FitPeer}
use Rattle.soundness.specs.Soundness.{usable, high_sync}
use Rattle.soundness.proofs.Laws.{InUse}
use Rattle.table.specs.Table.{width_of, decode_table, slot, slots, sound, entry, finds}
use Rattle.table.proofs.Laws.{entry-found, sound-whole, peers-held, found_below}
use Rattle.table.proofs.Fit.{fit-decoded, fit-slot}
use Rattle.causes.specs.declared.Refusal.{Refusal}
use Rattle.causes.specs.declared.Refusal.TheVariants as why
use Rattle.writer.specs.Writer.{LeftOut, refuse_out, draws, writes_parts, record_commit, record_confirm, record_body, writes_record_by, writes_record}
use Rattle.writer.proofs.Laws.{in-use-at, run-names}

-- ---- the causes, in order, and what is written where none holds

-- of a frame drawn: 7 where it is outside the shapes; then 11 where it is longer than the buffer; else its octets stand first in the buffer
pub data Draws (d : Drawn) (out : List ℕ) : LeftOut → Type 0 where
  outside : d ≡ Outside → Draws d out (refuse_out out why.Body)
  short : (s : List ℕ) → d ≡ Octets s → length out < length s → Draws d out (refuse_out out why.Short)
  whole : (s : List ℕ) → d ≡ Octets s → length s ≤ length out → Draws d out (record { answer = Ok (length s); out = put out 0 s })

pub draws-one : (d : Drawn) (out : List ℕ) → Draws d out (draws d out)
unfolding draws written leaves
draws-one Outside out = outside refl
draws-one (Octets s) out = go (ltb (length out) (length s)) refl
  where
    go : (b : Bool) → ltb (length out) (length s) ≡ b → Draws (Octets s) out (draws (Octets s) out)
    go true e = rw e (short s refl (ltb-true _ _ e))
    go false e = rw e (whole s refl (ltb-false _ _ e))

-- the writer from parts: 2, 7, 11
pub data FromParts (t : List ℕ) (d : Drawn) (out : List ℕ) : LeftOut → Type 0 where
  malformed : sound t ≡ false → FromParts t d out (refuse_out out why.Unsound)
  made : {l : LeftOut} → sound t ≡ true → Draws d out l → FromParts t d out l

module _ (t : List ℕ) (q x g n : ℕ) (token rest out : List ℕ) where
  abbrev parts : Drawn
  parts = parts_body (groups_of (decode_table t).header) q x g n token rest

  pub parts-one : FromParts t parts out (writes_parts t q x g n token rest out)
  unfolding writes_parts
  parts-one = go (sound t) refl
    where
      go : (b : Bool) → sound t ≡ b → FromParts t parts out (writes_parts t q x g n token rest out)
      go true e = rw e (made e (draws-one parts out))
      go false e = rw e (malformed e)

-- the writer from a record: 2, 3, 7 where there is no record, then 7 and 11 of the frame that was asked for
pub data FromRecord (t a : List ℕ) (q : ℕ) (value out : List ℕ) : LeftOut → Type 0 where
  unsound : sound t ≡ false → FromRecord t a q value out (refuse_out out why.Unsound)
  unusable : sound t ≡ true → usable (decode_table t).header.own a ≡ false → FromRecord t a q value out (refuse_out out why.Address)
  absent : sound t ≡ true → usable (decode_table t).header.own a ≡ true → finds (decode_table t) a ≡ None → FromRecord t a q value out (refuse_out out why.Body)
  drawn : {l : LeftOut} (k : ℕ) → sound t ≡ true → usable (decode_table t).header.own a ≡ true → finds (decode_table t) a ≡ Some k
      → Draws (record_body (groups_of (decode_table t).header) (slot (decode_table t) k) q value) out l → FromRecord t a q value out l

module _ (t a : List ℕ) (q : ℕ) (value out : List ℕ) where
  pub record-one : FromRecord t a q value out (writes_record t a q value out)
  unfolding writes_record entry writes_record_by
  record-one = go (sound t) refl
    where
      third : (f : Option ℕ) → sound t ≡ true → usable (decode_table t).header.own a ≡ true → finds (decode_table t) a ≡ f → FromRecord t a q value out (writes_record_by (Ok f) t q value out)
      third (Some k) e u h = drawn k e u h (draws-one _ out)
      third None e u h = absent e u h

      second : (b : Bool) → sound t ≡ true → usable (decode_table t).header.own a ≡ b
          → FromRecord t a q value out (writes_record_by (if not b then (Err why.Address) else Ok (finds (decode_table t) a)) t q value out)
      second true e u = third (finds (decode_table t) a) e u refl
      second false e u = unusable e u

      first : (b : Bool) → sound t ≡ b
          → FromRecord t a q value out (writes_record_by (if not b then (Err why.Unsound) else if not (usable (decode_table t).header.own a) then (Err why.Address) else Ok (finds (decode_table t) a)) t q value out)
      first true e = second (usable (decode_table t).header.own a) e refl
      first false e = unsound e

      go : (b : Bool) → sound t ≡ b → FromRecord t a q value out (writes_record t a q value out)
      go b e = first (sound t) refl

-- ---- a refusal leaves every octet of the buffer

draws-refused : (d : Drawn) (out : List ℕ) (l : LeftOut) (c : Refusal) → Draws d out l → l.answer ≡ Err c → l.out ≡ out
draws-refused d out l c (outside e) r = refl
draws-refused d out l c (short s e h) r = refl
draws-refused d out l c (whole s e h) r = let z : ◌≡◌ {A = ℕ} 0 1 = cc in absurd (omega arith)

pub parts-refused : (t : List ℕ) (q x g n : ℕ) (token rest out : List ℕ) (c : Refusal) → (writes_parts t q x g n token rest out).answer ≡ Err c → (writes_parts t q x g n token rest out).out ≡ out
parts-refused t q x g n token rest out c r = go _ (parts-one t q x g n token rest out) r
  where
    go : (l : LeftOut) → FromParts t (parts t q x g n token rest out) out l → l.answer ≡ Err c → l.out ≡ out
    go l (malformed e) k = refl
    go l (made e d) k = draws-refused _ out l c d k

pub record-refused : (t a : List ℕ) (q : ℕ) (value out : List ℕ) (c : Refusal) → (writes_record t a q value out).answer ≡ Err c → (writes_record t a q value out).out ≡ out
record-refused t a q value out c r = go _ (record-one t a q value out) r
  where
    go : (l : LeftOut) → FromRecord t a q value out l → l.answer ≡ Err c → l.out ≡ out
    go l (unsound e) k = refl
    go l (unusable e u) k = refl
    go l (absent e u h) k = refl
    go l (drawn j e u h d) k = draws-refused _ out l c d k

-- ---- what a record has is written, and reads back

-- s is written into the buffer
pub record Written (l : LeftOut) (s out : List ℕ) : Type 0 where
  pub answer : l.answer ≡ Ok (length s)
  pub buffer : l.out ≡ put out 0 s

room : (d : Drawn) (s out : List ℕ) → d ≡ Octets s → length s ≤ length out → Written (draws d out) s out
unfolding draws written leaves
room d s out e h = rw (e, le-ltb (length out) (length s) h) (record { answer = refl; buffer = refl })

module _ (t a : List ℕ) (k : ℕ) (e : entry t a ≡ Ok (Some k)) where
  abbrev pub here : Peer
  here = slot (decode_table t) k

  abbrev pub list : List ℕ
  list = groups_of (decode_table t).header

  in-use : InUse (decode_table t).header.own list (high_sync (decode_table t).header) here
  in-use = in-use-at t a k e

  module _ (q : ℕ) (value out s : List ℕ) where
    asked : record_body list here q value ≡ Octets s → length s ≤ length out → Written (writes_record t a q value out) s out
    unfolding writes_record writes_record_by
    asked d h = rw e (room _ s out d h)

  -- the record's arrays have their lengths, and its numbers fit
  pub fits : Bytes t → FitPeer width here
  fits b =
      let w = entry-found t a (Some k) e in
      let l : length t ≡ record_at (width_of t) (slots (decode_table t)) = sound-whole t w.0 in
      let n : length (decode_table t).peers ≡ slots (decode_table t) = peers-held t (slots (decode_table t)) l in
      let f : k < slots (decode_table t) = (found_below (decode_table t) a k w.1.1).0 in
      fit-slot (decode_table t) k (fit-decoded t (slots (decode_table t)) b l) (omega arith)

  -- "the run's Commit"
  module _ (b : Bytes t) (run : here.run.state ≡ 0 → ⊥) where
    abbrev pub token : List ℕ
    token = take here.run.toklen here.run.token

    abbrev pub own : List ℕ
    own = take (commit_length here.run.group) here.run.own

    supported : (listed list here.run.group ≡ true) × (here.run.toklen ≤ 256)
    supported = run-names _ _ _ _ in-use run

    token-length : length token ≡ here.run.toklen
    token-length = let l : length here.run.token ≡ 256 = (fits b).run.shape.token in let m : here.run.toklen ≤ 256 = supported.1 in length-take-le _ _ (omega arith)

    own-length : length own ≡ commit_length here.run.group
    own-length = let l : length here.run.own ≡ width = (fits b).run.shape.own in let m : commit_length here.run.group ≤ width = commit-fits here.run.group in length-take-le _ _ (omega arith)

    pub commit-octets : length (commit_body here.run.group token own) ≡ 8 + here.run.toklen + commit_length here.run.group
    unfolding commit_body
    commit-octets = length-body 1 0 here.run.group token own ∙ omega (arith, token-length, own-length)

    pub commit-drawn : (value : List ℕ) → record_body list here 1 value ≡ Octets (commit_body here.run.group token own)
    unfolding record_body record_commit draw_commit
    commit-drawn value =
        let m : length token ≤ 256 = omega (arith, token-length, supported.1) in
        rw (ne_eqb here.run.state 0 run, supported.0, le-ltb 256 (length token) m, eq-eqb (length own) (commit_length here.run.group) own-length)

    pub commit-written : (value out : List ℕ) → 8 + here.run.toklen + commit_length here.run.group ≤ length out
        → Written (writes_record t a 1 value out) (commit_body here.run.group token own) out
    commit-written value out h = asked 1 value out _ (commit-drawn value) (omega (arith, commit-octets))

    -- for every reader whose list has the group
    pub commit-reads-back : (hs : List ℕ) → listed hs here.run.group ≡ true → read_body hs (commit_body here.run.group token own) ≡ Some (body_is.Commit here.run.group here.run.toklen)
    commit-reads-back hs l =
        commit-reads hs here.run.group token own l (fits b).run.shape.group (omega (arith, token-length, supported.1)) own-length ∙ ap (λ (n : ℕ). Some (body_is.Commit here.run.group n)) token-length

    pub token_back : token_of (commit_body here.run.group token own) here.run.toklen ≡ token
    token_back = ap (token_of (commit_body here.run.group token own)) (sym token-length) ∙ commit-token-back here.run.group token own

    pub own_back : commit_of (commit_body here.run.group token own) here.run.group here.run.toklen ≡ own
    own_back = ap (commit_of (commit_body here.run.group token own) here.run.group) (sym token-length) ∙ commit_back here.run.group token own own-length

  -- "or the Confirm, whose counter is Sc for a run in Confirmed and 65,535 for a link with no run"
  module _ (value : List ℕ) (v : length value ≡ 32) where
    pub confirm-octets : (n : ℕ) → length (confirm_body n value) ≡ 40
    unfolding confirm_body
    confirm-octets n = length-body 2 0 n [] value ∙ omega arith

    confirm-is : (n : ℕ) → draw_confirm n value ≡ Octets (confirm_body n value)
    unfolding draw_confirm
    confirm-is n = rw (eq-eqb (length value) 32 v)

    pub run-confirm-written : (out : List ℕ) → here.run.state ≡ 2 → 40 ≤ length out → Written (writes_record t a 2 value out) (confirm_body here.run.sc value) out
    unfolding record_body record_confirm
    run-confirm-written out r h =
        let d : record_body list here 2 value ≡ draw_confirm here.run.sc value = rw (eq-eqb here.run.state 2 r) in
        asked 2 value out _ (d ∙ confirm-is here.run.sc) (omega (arith, confirm-octets here.run.sc))

    -- a record without a run has a link
    linked : here.run.state ≡ 0 → here.link.finished ≡ 0 → ⊥
    linked r l = let z : true ≡ false = sym in-use.some ∙ rw (eq-eqb here.run.state 0 r, eq-eqb here.link.finished 0 l) in let y : ◌≡◌ {A = ℕ} 0 1 = cc in omega arith

    pub link-confirm-written : (out : List ℕ) → here.run.state ≡ 0 → 40 ≤ length out → Written (writes_record t a 2 value out) (confirm_body 65535 value) out
    unfolding record_body record_confirm
    link-confirm-written out r h =
        let d : record_body list here 2 value ≡ draw_confirm 65535 value = rw (ne_eqb here.run.state 2 (omega arith), eq-eqb here.run.state 0 r, ne_eqb here.link.finished 0 (linked r)) in
        asked 2 value out _ (d ∙ confirm-is 65535) (omega (arith, confirm-octets 65535))

    pub confirm-reads-back : (hs : List ℕ) (n : ℕ) → n < 65536 → read_body hs (confirm_body n value) ≡ Some (body_is.Confirm n)
    confirm-reads-back hs n h = confirm-reads hs n value h v

    pub value_back : (n : ℕ) → value_of (confirm_body n value) ≡ value
    value_back n = confirm-back n value v

  -- a Committed run has no Confirm, with a link beside it or without
  pub committed-no-confirm : (value out : List ℕ) → here.run.state ≡ 1 → writes_record t a 2 value out ≡ refuse_out out why.Body
  unfolding writes_record writes_record_by record_body record_confirm draws written leaves
  committed-no-confirm value out r = rw (e, ne_eqb here.run.state 2 (omega arith), ne_eqb here.run.state 0 (omega arith))

  -- no run, no Commit
  pub idle-no-commit : (value out : List ℕ) → here.run.state ≡ 0 → writes_record t a 1 value out ≡ refuse_out out why.Body
  unfolding writes_record writes_record_by record_body record_commit draws written leaves
  idle-no-commit value out r = rw (e, eq-eqb here.run.state 0 r)
