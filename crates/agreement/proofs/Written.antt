-- 'AS THE WRITER MAKES THEM': what a call sent is what the writer writes from the table just left, whatever buffer it is lent.
use mathlib.Core.Path.{◌≡◌, refl, sym, ap, ◌∙◌}
use mathlib.Core.Bool.{Bool, true, false}
use mathlib.Core.List.{List, [], ◌∷◌}
use Prim.Native.Nat.{ℕ, ◌+◌, ◌*◌, ◌%◌}
use native.Mathlib.Omega.{arith}
use lib.Dec.{eqb}
use lib.ListN.{length}
use borrow.Author.Tests.{eqb-true, le-ltb}
use Rattle.protocol.specs.Model.{Side}
use Rattle.std.specs.Prelude.{if◌then◌else◌, Option, Some, None, Ok, Err, Result}
use Rattle.octets.specs.Octets.{num, individual, zero_address, same_address}
use Rattle.octets.proofs.Scan.{clash, and_left, and_right}
use Rattle.octets.proofs.Laws.{put_all}
use Rattle.frame.specs.Writing.{Drawn, Octets, Outside, parts_body, written, leaves}
use Rattle.record.specs.Layout.{no_peer, no_run, no_link}
use Rattle.soundness.specs.Soundness.{usable}
use Rattle.soundness.proofs.Laws.{peer-in-use}
use Rattle.table.specs.Table.{decode_table, in_use, belongs, slot, finds, look, look_by, sound, entry}
use Rattle.table.proofs.Laws.{found_below, sound-peer}
use Rattle.rules.specs.declared.Frame.{Frame}
use Rattle.rules.specs.Book.{◌is◌}
use Rattle.causes.specs.declared.Refusal.{Refusal}
use Rattle.writer.specs.Writer.{LeftOut, draws, writes_parts, record_commit, record_confirm, record_body, writes_record_by, writes_record}
use Rattle.writer.proofs.Theorems.{Draws, outside, short, whole, FromParts, malformed, made, parts-one, FromRecord, unsound, unusable, absent, record-one}
use Rattle.writer.proofs.Theorems as theorems
use Rattle.agreement.specs.Calls.{Writing, write_parts, write_record, Call, Entry, AllHanded, more, writes, done, left, table_of, table_after, answer_of, stepped}
use Rattle.agreement.specs.Story.{groups_in}
use Rattle.agreement.specs.Sent.{drawn, expected_of, Among, SendsBy, writing, Written}
use Rattle.agreement.proofs.Engine.{Ends, idles, goes_on, sets_up, frees, steps, call_ends}
use Rattle.agreement.proofs.History.{held_of}
use Rattle.agreement.proofs.Wire.{outside-not}
use Rattle.agreement.proofs.Deeds.{none-sent, kill-frames}
use Rattle.agreement.proofs.Valid.{table_same}
use Rattle.agreement.proofs.Demand.{lawful}

-- ---- an address is usable by its number

individual-num : (a : List ℕ) → individual a ≡ eqb (num a % 2) 0
unfolding individual num
individual-num [] = refl
individual-num (x ∷ xs) = let z : x % 2 ≡ (x + 256 * num xs) % 2 = omega arith in ap (λ (n : ℕ). eqb n 0) z

usable_same : (own a b : List ℕ) → same_address a b ≡ true → usable own a ≡ usable own b
unfolding usable zero_address same_address
usable_same own a b e =
    let n : num a ≡ num b = eqb-true _ _ e in
    rw (individual-num a, individual-num b, n)

-- ---- the record's frame

none-outside : (gs value octets : List ℕ) (q : ℕ) → record_body gs no_peer q value ≡ Octets octets → ⊥
unfolding record_body record_commit record_confirm no_peer no_run no_link
none-outside gs value octets q = go (q is 1) (q is 2)
  where
    go : (b c : Bool) → (if b then Outside else if c then Outside else Outside) ≡ Octets octets → ⊥
    go true c e = outside-not e
    go false true e = outside-not e
    go false false e = outside-not e

-- a frame by its status, as it is drawn and as the writer is asked for it
module _ (a value expected : List ℕ) (x : Frame) where
  abbrev token : List ℕ
  token = if x.status is 76 then expected else []

  abbrev drawn_by : List ℕ → Bool → Drawn
  drawn_by t b =
      if b then record_body (groups_in t) (look (decode_table t) a) x.sequence value
      else parts_body (groups_in t) x.sequence x.status x.group x.counter token []

  abbrev writing_by : List ℕ → Bool → Writing
  writing_by out b = if b then write_record a x.sequence value out else write_parts x.sequence x.status x.group x.counter token [] out

module _ (t : List ℕ) (s : sound t ≡ true) (octets out : List ℕ) where
  record-writes-by : (a value : List ℕ) (q : ℕ) (f : Option ℕ) → finds (decode_table t) a ≡ f
      → record_body (groups_in t) (look_by (decode_table t) f) q value ≡ Octets octets → writes_record t a q value out ≡ draws (Octets octets) out
  unfolding look_by entry writes_record writes_record_by belongs
  record-writes-by a value q None e m = absurd (none-outside (groups_in t) value octets q m)
  record-writes-by a value q (Some k) e m =
      let w = found_below (decode_table t) a k e in
      let u : (slot (decode_table t) k).used ≡ 1 = eqb-true _ _ (and_left _ _ w.1) in
      let P = peer-in-use _ _ _ _ (λ z. omega arith) (sound-peer t s k w.0) in
      let i = and_right (in_use (slot (decode_table t) k)) _ w.1 in
      let y = sym (usable_same (decode_table t).header.own (slot (decode_table t) k).address a i) ∙ P.usable in
      rw (s, y, e) (ap (λ (d : Drawn). draws d out) m)

  record-writes : (a value : List ℕ) (q : ℕ) → record_body (groups_in t) (look (decode_table t) a) q value ≡ Octets octets
      → writes_record t a q value out ≡ draws (Octets octets) out
  unfolding look
  record-writes a value q = record-writes-by a value q (finds (decode_table t) a) refl

  parts-writes : (q x g n : ℕ) (token rest : List ℕ) → parts_body (groups_in t) q x g n token rest ≡ Octets octets
      → writes_parts t q x g n token rest out ≡ draws (Octets octets) out
  unfolding writes_parts
  parts-writes q x g n token rest e = rw s (ap (λ (d : Drawn). draws d out) e)

  drawn-writes : (a value expected : List ℕ) (x : Frame) → drawn t a value expected x ≡ Octets octets
      → writes t (writing a value expected x out) ≡ draws (Octets octets) out
  drawn-writes a value expected x = go (x.status is 0)
    where
      go : (b : Bool) → drawn_by a value expected x t b ≡ Octets octets → writes t (writing_by a value expected x out b) ≡ draws (Octets octets) out
      go true m = record-writes a value x.sequence m
      go false m = parts-writes x.sequence x.status x.group x.counter (token a value expected x) [] m

-- ---- a call that sends leaves a sound table

sends-sound : (t : List ℕ) (c : Call) (x : Frame) → Ends t c → done t c ≡ true → Among x (left t c).answer.frames → sound (table_after t c) ≡ true
sends-sound t c x (idles d e) k m = absurd (clash k d)
sends-sound t c x (goes_on d S) k m = absurd (clash k d)
sends-sound t c x (sets_up d f y n i) k m = none-sent f m
sends-sound t c x (frees {a} d M) k m = none-sent (kill-frames _ a M.answer) m
sends-sound t c x (steps a o w d M D) k m = M.sound

-- WHAT IS SENT, the writer writes
pub sent-written : {e : Entry} {h : List Entry} {X : Side} {a octets : List ℕ} {x : Frame} → AllHanded (e ∷ h) → SendsBy X a octets h e x
    → Written (table_of (e ∷ h) e.side) (answer_of h e).address e.value (expected_of e.call) octets x
sent-written {e} {h} {X} {a} {octets} {x} (more k H) S = record { makes = λ out. drawn-writes _ s octets out _ _ _ x S.made }
  where
    t : List ℕ
    t = table_of h e.side

    s : sound (table_of (e ∷ h) e.side) ≡ true
    s = rw (table_same e h) (sends-sound t e.call x (call_ends lawful t (held_of lawful H e.side) k.call) S.stepped S.among)

-- ---- and what the writer writes is sent

not-refused : {c : Refusal} {n : ℕ} {r s : List ℕ} {X : Type 0}
    → ◌≡◌ {A = LeftOut} (record { answer = Err c; out = r }) (record { answer = Ok n; out = s }) → X
not-refused e = let q = ap (λ (x : LeftOut). x.answer) e in let z : ◌≡◌ {A = ℕ} 0 1 = cc in absurd (omega arith)

length-is : {m n : ℕ} → ◌≡◌ {A = Result ℕ Refusal} (Ok m) (Ok n) → m ≡ n
length-is e = cc

-- a buffer of the frame's own length says all of it
drawn-is : (d : Drawn) (s : List ℕ) (l : LeftOut) → Draws d s l → l ≡ record { answer = Ok (length s); out = s } → d ≡ Octets s
drawn-is d s l (outside e) q = not-refused q
drawn-is d s l (short r e h) q = not-refused q
drawn-is d s l (whole r e h) q =
    let n : length r ≡ length s = length-is (ap (λ (x : LeftOut). x.answer) q) in
    e ∙ ap Octets (sym (put_all s r n) ∙ ap (λ (x : LeftOut). x.out) q)

module _ (t octets : List ℕ) where
  abbrev Whole : LeftOut → Type 0
  Whole l = l ≡ record { answer = Ok (length octets); out = octets }

  record-drawn : (a value : List ℕ) (q : ℕ) (l : LeftOut) → FromRecord t a q value octets l → Whole l
      → record_body (groups_in t) (look (decode_table t) a) q value ≡ Octets octets
  unfolding look look_by
  record-drawn a value q l (unsound e) z = not-refused z
  record-drawn a value q l (unusable e u) z = not-refused z
  record-drawn a value q l (absent e u f) z = not-refused z
  record-drawn a value q l (theorems.drawn k e u f D) z = rw f (drawn-is _ octets l D z)

  parts-drawn : (d : Drawn) (l : LeftOut) → FromParts t d octets l → Whole l → d ≡ Octets octets
  parts-drawn d l (malformed e) z = not-refused z
  parts-drawn d l (made e D) z = drawn-is d octets l D z

  whole-draws : Whole (draws (Octets octets) octets)
  unfolding draws written leaves
  whole-draws = rw (le-ltb (length octets) (length octets) (omega arith), put_all octets octets refl)

  written-drawn : (a value expected : List ℕ) (x : Frame) → Written t a value expected octets x → drawn t a value expected x ≡ Octets octets
  written-drawn a value expected x W = go (x.status is 0) (W.makes octets ∙ whole-draws)
    where
      go : (b : Bool) → Whole (writes t (writing_by a value expected x octets b)) → drawn_by a value expected x t b ≡ Octets octets
      go true z = record-drawn a value x.sequence _ (record-one t a x.sequence value octets) z
      go false z = parts-drawn _ _ (parts-one t x.sequence x.status x.group x.counter (token a value expected x) [] octets) z

-- WHAT THE WRITER WRITES of a frame of a step's answer is sent
pub written-sent : {e : Entry} {h : List Entry} {X : Side} {a octets : List ℕ} {x : Frame} → e.side ≡ X → stepped h e ≡ true
    → same_address (answer_of h e).address a ≡ true → Among x (answer_of h e).frames
    → Written (table_of (e ∷ h) e.side) (answer_of h e).address e.value (expected_of e.call) octets x → SendsBy X a octets h e x
written-sent {octets = octets} {x = x} b s k m W = record { by = b; stepped = s; to = k; among = m; made = written-drawn _ octets _ _ _ x W }
