-- Laws of the interface: what each function's cases show of their definitions.
use mathlib.Core.Path.{◌≡◌, refl, sym, ap, ◌∙◌, subst}
use mathlib.Core.Bool.{Bool, true, false, not}
use mathlib.Core.List.{List, [], ◌∷◌, ◌++◌, append-nil, map}
use Prim.Native.Nat.{ℕ, ◌+◌, ◌≤◌}
use native.Mathlib.Omega.{arith}
use lib.Dec.{eqb}
use lib.ListN.{length, replicate, take, length-append, length-drop}
use borrow.Author.Tests.{eq-eqb, ne_eqb, not-true, not-false}
use Rattle.octets.specs.Octets.{put, part, num, oct}
use Rattle.causes.specs.Causes.{number}
use Rattle.std.specs.Prelude.{if◌then◌else◌, Result, Err, Option, Some, None, Ok}
use Rattle.octets.proofs.Laws.{length-oct}
use Rattle.record.specs.Codec.{glue, total}
use Rattle.record.specs.declared.Header.{Header}
use Rattle.record.specs.declared.Settings.{Settings}
use Rattle.record.specs.Layout.{groups_of}
use Rattle.record.specs.SettingsOctets.{settings_of, reserved_zero}
use Rattle.record.specs.declared.Form.{Form}
use Rattle.record.proofs.Codec.{lay, lay-all}
use Rattle.rules.specs.declared.Frame.{Frame}
use Rattle.rules.specs.declared.Frames.{Frames}
use Rattle.rules.specs.declared.Frames.TheVariants as frames
use Rattle.rules.specs.Book.{event_number}
use Rattle.groups.specs.Groups.{width, commit_length}
use Rattle.groups.proofs.Laws.{commit-fits}
use Rattle.message.specs.declared.View.{View}
use Rattle.message.specs.View.{view, read_view}
use Rattle.message.proofs.Laws.{view-long, view-read, view-unread}
use Rattle.frame.specs.Frame.{elements_of, commit_body, token_request_body, group_refusal_body, confirm_body}
use Rattle.frame.specs.Writing.{Drawn, Octets, Outside, draw_commit, draw_token_request, draw_group_refusal, draw_confirm, draw_commits, draw_confirms, parts_body}
use Rattle.frame.proofs.Laws.{length-body}
use Rattle.frame.proofs.Wrote.{CommitParts, commit-parts, TokenRequestParts, token-request-parts, group-refusal-parts, ConfirmParts, confirm-parts}
use Rattle.record.specs.declared.Peer.{Peer}
use Rattle.table.specs.Table.{decode_table, sound, checked, Looked}
use Rattle.table.proofs.Laws.{unsound as table-unsound}
use Rattle.good_links.specs.GoodLinks.{filled, fills}
use Rattle.answers.specs.declared.Answer.{Answer}
use Rattle.answers.specs.Answers.{Report, Left, Leaves, returned, refused, none_due, telling, told, told_if_due}
use Rattle.causes.specs.Causes.{passes}
use Rattle.causes.specs.declared.Refusal.{Refusal}
use Rattle.causes.specs.declared.Refusal.TheVariants as why
use Rattle.calls.specs.Calls.{initializes, initializes_from}
use Rattle.writer.specs.Writer.{LeftOut, LeavesOut, writes_parts, record_commit, record_confirm, record_body, writes_record}
use Rattle.writer.proofs.Theorems.{Draws, outside, short, whole, FromParts, malformed, made, FromRecord, unsound, unusable, absent, drawn, parts-one, record-one}
use Rattle.lookups.specs.Lookups.{asked_returned}
use Rattle.moves.specs.Moves.{Moved, Moves, settled}
use Rattle.sae.specs.Interface.{frame_octets, framed_octets, frames_octets, answer_octets, answer_left, Returns, has_token, has_value, handed_at, handed_length, rest_at, parts_octets, reading, read_number, read_parts, Reads, wrote_number, written_left, Counted, Writes, asked_left, Asks, fill_number, Fills, MovesTo}

-- ---- octets, one store for each field

pub frame-laid : (f : Frame) (z a b c d : List ℕ) → length z ≡ 8 → a ≡ put z 0 (oct 2 f.sequence) → b ≡ put a 2 (oct 2 f.status) → c ≡ put b 4 (oct 2 f.group)
    → d ≡ put c 6 (oct 2 f.counter) → d ≡ frame_octets f
unfolding frame_octets lay glue total
frame-laid f z a b c d h ea eb ec ed =
    let k : d ≡ lay 0 (2 ∷ 2 ∷ 2 ∷ 2 ∷ []) (oct 2 f.sequence ∷ oct 2 f.status ∷ oct 2 f.group ∷ oct 2 f.counter ∷ []) z = cc in
    k ∙ lay-all (2 ∷ 2 ∷ 2 ∷ 2 ∷ []) (oct 2 f.sequence ∷ oct 2 f.status ∷ oct 2 f.group ∷ oct 2 f.counter ∷ []) z
    (cc (length-oct 2 f.sequence, length-oct 2 f.status, length-oct 2 f.group, length-oct 2 f.counter)) h ∙ simp append-nil

-- the second octet stays zero
zero-stays : (n : ℕ) → put (put (replicate 18 0) 0 (oct 1 n)) 1 (oct 1 0) ≡ put (replicate 18 0) 0 (oct 1 n)
unfolding put oct
zero-stays n = refl

pub framed-laid : (n : ℕ) (first second a b c : List ℕ) → length first ≡ 8 → length second ≡ 8 → a ≡ put (replicate 18 0) 0 (oct 1 n) → b ≡ put a 2 first → c ≡ put b 10 second
    → c ≡ framed_octets n first second
unfolding framed_octets lay glue total
framed-laid n first second a b c hf hs ea eb ec =
    let z : put (put (replicate 18 0) 0 (oct 1 n)) 1 (oct 1 0) ≡ put (replicate 18 0) 0 (oct 1 n) = zero-stays n in
    let k : c ≡ lay 0 (1 ∷ 1 ∷ 8 ∷ 8 ∷ []) (oct 1 n ∷ oct 1 0 ∷ first ∷ second ∷ []) (replicate 18 0) = cc in
    let w : map length (oct 1 n ∷ oct 1 0 ∷ first ∷ second ∷ []) ≡ 1 ∷ 1 ∷ 8 ∷ 8 ∷ [] = cc (length-oct 1 n, length-oct 1 0) in
    k ∙ lay-all (1 ∷ 1 ∷ 8 ∷ 8 ∷ []) (oct 1 n ∷ oct 1 0 ∷ first ∷ second ∷ []) (replicate 18 0) w refl ∙ simp append-nil

module _ (f : Frames) where
  pub frames-none : f ≡ frames.None → replicate 18 0 ≡ frames_octets f
  unfolding frames_octets framed_octets oct
  frames-none e = rw e

  pub frames-one : (g : Frame) (first r : List ℕ) → f ≡ frames.One g → first ≡ frame_octets g → r ≡ framed_octets 1 first (replicate 8 0) → r ≡ frames_octets f
  unfolding frames_octets
  frames-one g first r e q w = rw (e, ← q) w

  pub frames-two : (g h : Frame) (first second r : List ℕ) → f ≡ frames.Two g h → first ≡ frame_octets g → second ≡ frame_octets h → r ≡ framed_octets 2 first second → r ≡ frames_octets f
  unfolding frames_octets
  frames-two g h first second r e q k w = rw (e, ← q, ← k) w

framed-length : (n : ℕ) (a b : List ℕ) → length a ≡ 8 → length b ≡ 8 → length (framed_octets n a b) ≡ 18
unfolding framed_octets
framed-length n a b h k = simp (length-append, length-oct) (omega arith)

frame-length : (f : Frame) → length (frame_octets f) ≡ 8
unfolding frame_octets
frame-length f = simp (length-append, length-oct)

pub length-frames : (f : Frames) (fs : List ℕ) → fs ≡ frames_octets f → length fs ≡ 18
unfolding frames_octets
length-frames f fs e = ap length e ∙ go f
  where
    go : (f : Frames) → length (frames_octets f) ≡ 18
    go frames.None = framed-length 0 (replicate 8 0) (replicate 8 0) refl refl
    go (frames.One g) = framed-length 1 (frame_octets g) (replicate 8 0) (frame-length g) refl
    go (frames.Two g h) = framed-length 2 (frame_octets g) (frame_octets h) (frame-length g) (frame-length h)

-- a call's answer says that one was due, with octet 0 as it was set up
laid-answer : (none event : ℕ) (fresh address fs z a b c d e : List ℕ) → length fresh ≡ 2 → length address ≡ 6 → length fs ≡ 18 → length z ≡ 28
    → a ≡ put z 0 (oct 1 none) → b ≡ put a 1 (oct 1 event) → c ≡ put b 2 fresh → d ≡ put c 4 address → e ≡ put d 10 fs
    → e ≡ oct 1 none ++ (oct 1 event ++ (fresh ++ (address ++ fs)))
unfolding lay glue total
laid-answer none event fresh address fs z a b c d e hr ha hf hz ea eb ec ed ee =
    let k : e ≡ lay 0 (1 ∷ 1 ∷ 2 ∷ 6 ∷ 18 ∷ []) (oct 1 none ∷ oct 1 event ∷ fresh ∷ address ∷ fs ∷ []) z = cc in
    let w : map length (oct 1 none ∷ oct 1 event ∷ fresh ∷ address ∷ fs ∷ []) ≡ 1 ∷ 1 ∷ 2 ∷ 6 ∷ 18 ∷ [] = cc (length-oct 1 none, length-oct 1 event) in
    k ∙ lay-all (1 ∷ 1 ∷ 2 ∷ 6 ∷ 18 ∷ []) (oct 1 none ∷ oct 1 event ∷ fresh ∷ address ∷ fs ∷ []) z w hz ∙ simp append-nil

zero-first : replicate 28 0 ≡ put (replicate 28 0) 0 (oct 1 0)
unfolding put oct
zero-first = refl

pub answer-laid : (x : Answer) (event : ℕ) (fs a b c d : List ℕ) → event ≡ event_number x.event → fs ≡ frames_octets x.frames → length x.address ≡ 6
    → a ≡ put (replicate 28 0) 1 (oct 1 event) → b ≡ put a 2 (oct 2 x.afresh) → c ≡ put b 4 x.address → d ≡ put c 10 fs → d ≡ answer_octets (telling x)
unfolding answer_octets
answer-laid x event fs a b c d ee ef ha ea eb ec ed =
    laid-answer 0 event (oct 2 x.afresh) x.address fs (replicate 28 0) (replicate 28 0) a b c d (length-oct 2 x.afresh) ha (length-frames x.frames fs ef) refl zero-first ea eb ec ed
    ∙ rw (ee, ef) refl

pub none-due-laid : (a : List ℕ) → a ≡ put (replicate 28 0) 0 (oct 1 1) → a ≡ answer_octets none_due
unfolding put oct answer_octets none_due frames_octets framed_octets
none-due-laid a e = e

-- ---- the answer, and what is returned

-- what is left of the octets lent for the answer
pub left-refused : (c : Refusal) (given : List ℕ) → given ≡ answer_left (refused c) given
unfolding answer_left refused
left-refused c given = refl

pub left-answered : (a : Answer) (x given : List ℕ) → x ≡ answer_octets (telling a) → x ≡ answer_left (telling a) given
unfolding answer_left
left-answered a x given e = e

pub left-none-due : (x given : List ℕ) → x ≡ answer_octets none_due → x ≡ answer_left none_due given
unfolding answer_left none_due
left-none-due x given e = e

pub refused-number : (c : Refusal) → number c ≡ returned (refused c).outcome
unfolding refused
refused-number c = refl

pub none-due-number : 0 ≡ returned none_due.outcome
unfolding none_due
none-due-number = refl

-- by the result
pub reply-answered : (r : Result Answer Refusal) (a : Answer) (x given : List ℕ) → r ≡ Ok a → x ≡ answer_octets (telling a) → (0 ≡ returned (told r).outcome) × (x ≡ answer_left (told r) given)
reply-answered r a x given e q = rw e (refl, left-answered a x given q)

pub reply-refused : (r : Result Answer Refusal) (c : Refusal) (n : ℕ) (given : List ℕ) → r ≡ Err c → n ≡ number c → (n ≡ returned (told r).outcome) × (given ≡ answer_left (told r) given)
reply-refused r c n given e q = rw e (q ∙ refused-number c, left-refused c given)

pub due-answered : (r : Result (Option Answer) Refusal) (f : Option Answer) (a : Answer) (x given : List ℕ) → r ≡ Ok f → f ≡ Some a → x ≡ answer_octets (telling a)
    → (0 ≡ returned (told_if_due r).outcome) × (x ≡ answer_left (told_if_due r) given)
due-answered r f a x given e v q = rw e (rw v (refl, left-answered a x given q))

pub due-none : (r : Result (Option Answer) Refusal) (f : Option Answer) (x given : List ℕ) → r ≡ Ok f → f ≡ None → x ≡ answer_octets none_due
    → (0 ≡ returned (told_if_due r).outcome) × (x ≡ answer_left (told_if_due r) given)
due-none r f x given e v q = rw e (rw v (none-due-number, left-none-due x given q))

pub due-refused : (r : Result (Option Answer) Refusal) (c : Refusal) (n : ℕ) (given : List ℕ) → r ≡ Err c → n ≡ number c → (n ≡ returned (told_if_due r).outcome) × (given ≡ answer_left (told_if_due r) given)
due-refused r c n given e q = rw e (q ∙ refused-number c, left-refused c given)

pub replied : (x : Report) (t : List ℕ) (l : Left) (r : ℕ) (answer given : List ℕ) → Leaves x t l → r ≡ returned x.outcome → answer ≡ answer_left x given → Returns r t answer given l
replied x t l r answer given e q w = record { returns = q ∙ ap (λ (y : Report). returned y.outcome) e.answer; leaves = e.table; answers = w ∙ ap (λ (y : Report). answer_left y given) e.answer }

-- ---- the settings

pub settings-are : (s : List ℕ) (n g h i k p l : ℕ) → n ≡ num (part s 0 1) → g ≡ num (part s 2 2) → h ≡ num (part s 4 2) → i ≡ num (part s 6 2) → k ≡ num (part s 8 2)
    → p ≡ num (part s 10 2) → l ≡ num (part s 12 1)
    → record { count = n; groups = g ∷ h ∷ i ∷ []; threshold = k; period = p; limit = l } ≡ settings_of s
unfolding settings_of
settings-are s n g h i k p l en eg eh ei ek ep el = rw (en, eg, eh, ei, ek, ep, el)

module _ (f : Form) (t own s : List ℕ) (b : Bool) (p : b ≡ reserved_zero s) where
  pub from-reserved : (r : Report) → not b ≡ true → r ≡ refused why.Settings → Leaves r t (initializes_from f t own s)
  unfolding initializes_from
  from-reserved r q w = let z : reserved_zero s ≡ false = sym p ∙ not-true b q in rw z (record { answer = w; table = refl })

  pub from-settings : (x : Settings) (u : List ℕ) (r : Report) → not b ≡ false → x ≡ settings_of s → Leaves r u (initializes f t own x) → Leaves r u (initializes_from f t own s)
  unfolding initializes_from
  from-settings x u r q e l = let z : reserved_zero s ≡ true = sym p ∙ not-false b q in rw z (subst (λ (y : Settings). Leaves r u (initializes f t own y)) e l)

-- ---- the parts of a frame

module _ (v : View) (b : Bool) (p : b ≡ has_token v) where
  pub handed-token : b ≡ true → 8 ≡ handed_at v
  unfolding handed_at
  handed-token q = let z : has_token v ≡ true = sym p ∙ q in rw z

  module _ (l : b ≡ false) (c : Bool) (k : c ≡ has_value v) where
    pub handed-behind : c ≡ true → 40 ≡ handed_at v
    unfolding handed_at
    handed-behind q = let y : has_token v ≡ false = sym p ∙ l in let z : has_value v ≡ true = sym k ∙ q in rw (y, z)

    pub handed-not : c ≡ false → 0 ≡ handed_at v
    unfolding handed_at
    handed-not q = let y : has_token v ≡ false = sym p ∙ l in let z : has_value v ≡ false = sym k ∙ q in rw (y, z)

module _ (v : View) (s : List ℕ) (b : Bool) (p : b ≡ has_value v) where
  pub length-behind : (r : List ℕ) → b ≡ true → r ≡ elements_of s → length r ≡ handed_length v s
  unfolding handed_length
  length-behind r q e = let z : has_value v ≡ true = sym p ∙ q in rw z (ap length e)

  pub length-token : b ≡ false → v.toklen ≡ handed_length v s
  unfolding handed_length
  length-token q = let z : has_value v ≡ false = sym p ∙ q in rw z

-- what follows is no longer than the frame
pub behind-short : (s r : List ℕ) → length s ≤ 2304 → r ≡ elements_of s → length r ≤ 2304
unfolding elements_of
behind-short s r h e = rw e (omega (arith, length-drop 40 s))

pub rest-scalar : (v : View) → v.listed ≡ true → 8 + v.toklen ≡ rest_at v
unfolding rest_at
rest-scalar v q = rw q

pub rest-value : (v : View) (b : Bool) → v.listed ≡ false → b ≡ has_value v → b ≡ true → 8 ≡ rest_at v
unfolding rest_at
rest-value v b l p q = let z : has_value v ≡ true = sym p ∙ q in rw (l, z)

pub rest-not : (v : View) (b : Bool) → v.listed ≡ false → b ≡ has_value v → b ≡ false → 0 ≡ rest_at v
unfolding rest_at
rest-not v b l p q = let z : has_value v ≡ false = sym p ∙ q in rw (l, z)

laid : (q x g n i l k : ℕ) (z a b c d e f h : List ℕ) → length z ≡ 20 → a ≡ put z 0 (oct 2 q) → b ≡ put a 2 (oct 2 x) → c ≡ put b 4 (oct 2 g) → d ≡ put c 6 (oct 2 n)
    → e ≡ put d 8 (oct 4 i) → f ≡ put e 12 (oct 4 l) → h ≡ put f 16 (oct 4 k)
    → h ≡ oct 2 q ++ (oct 2 x ++ (oct 2 g ++ (oct 2 n ++ (oct 4 i ++ (oct 4 l ++ oct 4 k)))))
unfolding lay glue total
laid q x g n i l k z a b c d e f h hz ea eb ec ed ee ef eh =
    let s : h ≡ lay 0 (2 ∷ 2 ∷ 2 ∷ 2 ∷ 4 ∷ 4 ∷ 4 ∷ []) (oct 2 q ∷ oct 2 x ∷ oct 2 g ∷ oct 2 n ∷ oct 4 i ∷ oct 4 l ∷ oct 4 k ∷ []) z = cc in
    let w : map length (oct 2 q ∷ oct 2 x ∷ oct 2 g ∷ oct 2 n ∷ oct 4 i ∷ oct 4 l ∷ oct 4 k ∷ []) ≡ 2 ∷ 2 ∷ 2 ∷ 2 ∷ 4 ∷ 4 ∷ 4 ∷ [] =
    cc (length-oct 2 q, length-oct 2 x, length-oct 2 g, length-oct 2 n, length-oct 4 i, length-oct 4 l, length-oct 4 k) in
    s ∙ lay-all (2 ∷ 2 ∷ 2 ∷ 2 ∷ 4 ∷ 4 ∷ 4 ∷ []) (oct 2 q ∷ oct 2 x ∷ oct 2 g ∷ oct 2 n ∷ oct 4 i ∷ oct 4 l ∷ oct 4 k ∷ []) z w hz ∙ simp append-nil

pub parts-laid : (v : View) (s : List ℕ) (at long rest : ℕ) (z a b c d e f h : List ℕ) → at ≡ handed_at v → long ≡ handed_length v s → rest ≡ rest_at v → length z ≡ 20
    → a ≡ put z 0 (oct 2 v.sequence) → b ≡ put a 2 (oct 2 v.status) → c ≡ put b 4 (oct 2 v.group) → d ≡ put c 6 (oct 2 v.counter) → e ≡ put d 8 (oct 4 at)
    → f ≡ put e 12 (oct 4 long) → h ≡ put f 16 (oct 4 rest) → h ≡ parts_octets v s
unfolding parts_octets
parts-laid v s at long rest z a b c d e f h et el er hz ea eb ec ed ee ef eh =
    laid v.sequence v.status v.group v.counter at long rest z a b c d e f h hz ea eb ec ed ee ef eh ∙ rw (et, el, er)

-- ---- a body read

module _ (t frame : List ℕ) where
  pub reading-unsound : (c : Refusal) → checked t ≡ Err c → Err c ≡ reading t frame
  unfolding reading
  reading-unsound c e = let z = table-unsound t c e in rw (z.0, z.1) refl

  module _ (h : Header) (L : Looked t h) (gs : List ℕ) (eg : gs ≡ groups_of h) where
    seen : read_view gs frame ≡ read_view (groups_of (decode_table t).header) frame
    seen = ap (λ (y : List ℕ). read_view y frame) (eg ∙ ap groups_of L.header)

    pub reading-malformed : (o : Option View) → o ≡ read_view gs frame → o ≡ None → Err why.Body ≡ reading t frame
    unfolding reading
    reading-malformed o e n =
        let y : eqb (view (groups_of (decode_table t).header) frame).sequence 0 ≡ true = eq-eqb _ 0 (view-unread _ frame (sym seen ∙ sym e ∙ n)) in
        rw (L.whole, y) refl

    module _ (o : Option View) (v : View) (e : o ≡ read_view gs frame) (s : o ≡ Some v) where
      read : (v ≡ view (groups_of (decode_table t).header) frame) × (v.sequence ≡ 0 → ⊥) × (v.toklen ≤ 256)
      read = view-read (groups_of (decode_table t).header) frame v (sym seen ∙ sym e ∙ s)

      -- a body that was read has at most 2,304 octets
      pub read_length : length frame ≤ 2304
      read_length = view-long (groups_of (decode_table t).header) frame (λ z. read.1 (ap (λ (x : View). x.sequence) read.0 ∙ z))

      pub reading-parts : (parts : List ℕ) → parts ≡ parts_octets v frame → Ok parts ≡ reading t frame
      unfolding reading
      reading-parts parts w =
          let n : eqb (view (groups_of (decode_table t).header) frame).sequence 0 ≡ false = ne_eqb _ 0 (λ z. read.1 (ap (λ (x : View). x.sequence) read.0 ∙ z)) in
          rw (L.whole, n) (ap Ok (w ∙ ap (λ (x : View). parts_octets x frame) read.0))

-- what the octets lent for the parts hold then
module _ (t frame given : List ℕ) (r : Result (List ℕ) Refusal) (e : r ≡ reading t frame) where
  go-read : (b c : Bool) (x : List ℕ) → (if b then (if c then Err why.Body else Ok (parts_octets (view (groups_of (decode_table t).header) frame) frame)) else Err why.Unsound) ≡ Ok x
      → (◌≡◌ {A = ℕ} 0 (if b then (if c then 7 else 0) else 2)) × (x ≡ (if b then (if c then given else parts_octets (view (groups_of (decode_table t).header) frame) frame) else given))
  go-read true false x q = (refl, cc)
  go-read true true x q = let z : ◌≡◌ {A = ℕ} 0 1 = cc in absurd (omega arith)
  go-read false c x q = let z : ◌≡◌ {A = ℕ} 0 1 = cc in absurd (omega arith)

  go-refused : (b c : Bool) (d : Refusal)
      → ◌≡◌ {A = Result (List ℕ) Refusal} (if b then (if c then Err why.Body else Ok (parts_octets (view (groups_of (decode_table t).header) frame) frame)) else Err why.Unsound) (Err d)
      → (number d ≡ (if b then (if c then 7 else 0) else 2)) × (given ≡ (if b then (if c then given else parts_octets (view (groups_of (decode_table t).header) frame) frame) else given))
  go-refused true false d q = let z : ◌≡◌ {A = ℕ} 0 1 = cc in absurd (omega arith)
  go-refused true true d q = let z : why.Body ≡ d = cc in (ap number (sym z), refl)
  go-refused false c d q = let z : why.Unsound ≡ d = cc in (ap number (sym z), refl)

  pub read-done : (x : List ℕ) → r ≡ Ok x → Reads 0 x given t frame
  unfolding reading read_number read_parts
  read-done x q =
      let w = go-read (sound t) (eqb (view (groups_of (decode_table t).header) frame).sequence 0) x (sym e ∙ q) in record { returns = w.0; leaves = w.1 }

  pub read-refused : (c : Refusal) (n : ℕ) → r ≡ Err c → n ≡ number c → Reads n given given t frame
  unfolding reading read_number read_parts
  read-refused c n q k =
      let w = go-refused (sound t) (eqb (view (groups_of (decode_table t).header) frame).sequence 0) c (sym e ∙ q) in record { returns = k ∙ w.0; leaves = w.1 }

-- ---- a frame has at most 462 octets

pub record Small (d : Drawn) : Type 0 where
  pub most : (s : List ℕ) → d ≡ Octets s → length s ≤ 462

small-none : Small Outside
small-none = record { most = λ s e. let z : ◌≡◌ {A = ℕ} 0 1 = cc in absurd (omega arith) }

module _ (gs : List ℕ) (g : ℕ) (t c : List ℕ) where
  small-commit : Small (draw_commit gs g t c)
  unfolding commit_body
  small-commit = record {
    most = λ s e.
        let w : CommitParts gs g t c s = commit-parts gs g t c s e in
        let l : length s ≡ 8 + length t + length c = ap length w.octets ∙ length-body 1 0 g t c in
        let k : commit_length g ≤ width = commit-fits g in
        omega (arith, w.token, w.commit);
  }

  small-request : Small (draw_token_request g t)
  unfolding token_request_body
  small-request = record {
    most = λ s e.
        let w : TokenRequestParts g t s = token-request-parts g t s e in
        let l : length s ≡ 8 + length t + 0 = ap length w.octets ∙ length-body 1 76 g t [] in
        omega (arith, w.token);
  }

  small-refusal : Small (draw_group_refusal g)
  unfolding group_refusal_body
  small-refusal = record { most = λ s e. let l : length s ≡ 8 + 0 + 0 = ap length (group-refusal-parts g s e) ∙ length-body 1 77 g [] [] in omega arith }

small-confirm : (n : ℕ) (v : List ℕ) → Small (draw_confirm n v)
unfolding confirm_body
small-confirm n v = record {
  most = λ s e.
      let w : ConfirmParts n v s = confirm-parts n v s e in
      let l : length s ≡ 8 + 0 + length v = ap length w.octets ∙ length-body 2 0 n [] v in
      omega (arith, w.value);
}

module _ (gs : List ℕ) (q x g n : ℕ) (t r : List ℕ) where
  small-commits : Small (draw_commits gs x g t r)
  unfolding draw_commits
  small-commits = go (eqb x 0) (eqb x 76) (eqb (length r) 0) (eqb x 77) (eqb (length t) 0)
    where
      go : (a b c d e : Bool) → Small (if a then draw_commit gs g t r else if b then (if c then draw_token_request g t else Outside)
          else if d then (if e then (if c then draw_group_refusal g else Outside) else Outside) else Outside)
      go true b c d e = small-commit gs g t r
      go false true true d e = small-request gs g t r
      go false true false d e = small-none
      go false false true true true = small-refusal gs g t r
      go false false false true true = small-none
      go false false c true false = small-none
      go false false c false e = small-none

  small-confirms : Small (draw_confirms x g n t r)
  unfolding draw_confirms
  small-confirms = go (eqb x 0) (eqb g 0) (eqb (length t) 0)
    where
      go : (a b c : Bool) → Small (if a then (if b then (if c then draw_confirm n r else Outside) else Outside) else Outside)
      go true true true = small-confirm n r
      go true true false = small-none
      go true false c = small-none
      go false b c = small-none

  pub small-parts : Small (parts_body gs q x g n t r)
  unfolding parts_body
  small-parts = go (eqb q 1) (eqb n 0) (eqb q 2)
    where
      go : (a b c : Bool) → Small (if a then (if b then draw_commits gs x g t r else Outside) else if c then draw_confirms x g n t r else Outside)
      go true true c = small-commits
      go true false c = small-none
      go false b true = small-confirms
      go false b false = small-none

module _ (gs : List ℕ) (p : Peer) (q : ℕ) (value : List ℕ) where
  small-run : Small (record_commit gs p)
  unfolding record_commit
  small-run = go (eqb p.run.state 0)
    where
      go : (a : Bool) → Small (if a then Outside else draw_commit gs p.run.group (take p.run.toklen p.run.token) (take (commit_length p.run.group) p.run.own))
      go true = small-none
      go false = small-commit gs p.run.group (take p.run.toklen p.run.token) (take (commit_length p.run.group) p.run.own)

  small-record-confirm : Small (record_confirm p value)
  unfolding record_confirm
  small-record-confirm = go (eqb p.run.state 2) (not (eqb p.run.state 0)) (not (eqb p.link.finished 0))
    where
      go : (a b c : Bool) → Small (if a then draw_confirm p.run.sc value else if b then Outside else if c then draw_confirm 65535 value else Outside)
      go true b c = small-confirm p.run.sc value
      go false true c = small-none
      go false false true = small-confirm 65535 value
      go false false false = small-none

  pub small-record : Small (record_body gs p q value)
  unfolding record_body
  small-record = go (eqb q 1) (eqb q 2)
    where
      go : (a b : Bool) → Small (if a then record_commit gs p else if b then record_confirm p value else Outside)
      go true b = small-run
      go false true = small-record-confirm
      go false false = small-none

-- so does what a writer answers
small-draws : (d : Drawn) (out : List ℕ) (l : LeftOut) → Small d → Draws d out l → Counted l.answer
small-draws d out l h (outside e) = record { most = λ n k. let z : ◌≡◌ {A = ℕ} 0 1 = cc in absurd (omega arith) }
small-draws d out l h (short s e w) = record { most = λ n k. let z : ◌≡◌ {A = ℕ} 0 1 = cc in absurd (omega arith) }
small-draws d out l h (whole s e w) = record { most = λ n k. let z : n ≡ length s = cc in omega (arith, h.most s e) }

none-counted : (c : Refusal) → Counted (Err c)
none-counted c = record { most = λ n k. let z : ◌≡◌ {A = ℕ} 0 1 = cc in absurd (omega arith) }

parts-counted : (t : List ℕ) (d : Drawn) (out : List ℕ) (l : LeftOut) → Small d → FromParts t d out l → Counted l.answer
parts-counted t d out l h (malformed e) = none-counted _
parts-counted t d out l h (made e w) = small-draws d out l h w

record-counted : (t a : List ℕ) (q : ℕ) (value out : List ℕ) (l : LeftOut) → FromRecord t a q value out l → Counted l.answer
record-counted t a q value out l (unsound e) = none-counted _
record-counted t a q value out l (unusable e u) = none-counted _
record-counted t a q value out l (absent e u f) = none-counted _
record-counted t a q value out l (drawn k e u f w) = small-draws _ out l (small-record _ _ q value) w

pub counted-parts : (t : List ℕ) (q x g n : ℕ) (token rest out u : List ℕ) (w : Result ℕ Refusal) → LeavesOut w u (writes_parts t q x g n token rest out) → Counted w
counted-parts t q x g n token rest out u w l = subst Counted (sym l.answer) (parts-counted t _ out _ (small-parts _ q x g n token rest) (parts-one t q x g n token rest out))

pub counted-record : (t a : List ℕ) (q : ℕ) (value out u : List ℕ) (w : Result ℕ Refusal) → LeavesOut w u (writes_record t a q value out) → Counted w
counted-record t a q value out u w l = subst Counted (sym l.answer) (record-counted t a q value out _ (record-one t a q value out))

pub wrote-replied : (w : Result ℕ Refusal) (u : List ℕ) (l : LeftOut) (r n given : ℕ) → LeavesOut w u l → r ≡ wrote_number w → n ≡ written_left w given → Writes r u n given l
wrote-replied w u l r n given e q k = record { returns = q ∙ ap wrote_number e.answer; leaves = e.out; counts = k ∙ ap (λ (y : Result ℕ Refusal). written_left y given) e.answer }

-- ---- a lookup

pub asked-replied : (a x : Result ℕ Refusal) (r left given : ℕ) → a ≡ x → (r ≡ asked_returned a) × (left ≡ asked_left a given) → Asks r left given x
asked-replied a x r left given e w = record { returns = w.0 ∙ ap asked_returned e; leaves = w.1 ∙ ap (λ (y : Result ℕ Refusal). asked_left y given) e }

-- what `sae_fill` shows
-- a fill
pub filled-law : (t u : List ℕ) (r : Result (Unit {0}) Refusal) (n : ℕ) → (r ≡ passes (sound (filled t)) why.Unsound) × (u ≡ fills t) → n ≡ returned (settled r) → Fills n u t
unfolding fill_number
filled-law t u r n w e = record { returns = e ∙ ap (λ (y : Result (Unit {0}) Refusal). returned (settled y)) w.0 ∙ go (sound (filled t)); leaves = w.1 }
  where
    go : (b : Bool) → returned (settled (passes b why.Unsound)) ≡ (if b then 0 else number why.Unsound)
    go true = refl
    go false = refl

-- a move
pub moved-law : (r : Result (Unit {0}) Refusal) (u : List ℕ) (m : Moved) (n : ℕ) → Moves r u m → n ≡ returned (settled r) → MovesTo n u m
moved-law r u m n M e = record { returns = e ∙ ap returned M.answer; leaves = M.target }
