-- The octets of the C interface: answers and parts out; the settings' stand in record. Every field is little-endian.
use Rattle.std.specs.Prelude.{◌≡◌, Bool, true, false, ◌&&◌, ◌||◌, List, ◌++◌, ℕ, ◌+◌, ◌≤◌, length, replicate, if◌then◌else◌, Result, Ok, Err}
use Rattle.causes.specs.Causes.{number}
use Rattle.octets.specs.Octets.{oct}
use Rattle.frame.specs.Frame.{elements_of}
use Rattle.record.specs.Layout.{groups_of}
use Rattle.rules.specs.Book.{◌is◌, event_number}
use Rattle.rules.specs.declared.Frame.{Frame}
use Rattle.rules.specs.declared.Frames.{Frames}
use Rattle.rules.specs.declared.Frames.TheVariants as frames
use Rattle.message.specs.declared.View.{View}
use Rattle.message.specs.View.{view}
use Rattle.table.specs.Table.{decode_table, sound}
use Rattle.good_links.specs.GoodLinks.{filled, fills}
use Rattle.answers.specs.Outcome.{Outcome}
use Rattle.answers.specs.Outcome as outcome
use Rattle.causes.specs.declared.Refusal.TheVariants as why
use Rattle.answers.specs.Answers.{Report, Left, returned}
use Rattle.writer.specs.Writer.{LeftOut}
use Rattle.lookups.specs.Lookups.{asked_returned}
use Rattle.moves.specs.Moves.{Moved}
use Rattle.causes.specs.declared.Refusal.{Refusal}

-- ---- answer, 28 octets: 0 none due (1, else 0); 1 event; 2–3 fresh group used; 4–9 address; 10 number of frames; 11 zero; 12–19 and 20–27 the frames

abbrev pub none_due_flag : Outcome → ℕ
none_due_flag outcome.Done = 0
none_due_flag outcome.NoneDue = 1
none_due_flag (outcome.Refused c) = 0

-- sequence, status, group, counter (2 each)
unfoldable pub frame_octets : Frame → List ℕ
frame_octets f = oct 2 f.sequence ++ (oct 2 f.status ++ (oct 2 f.group ++ oct 2 f.counter))

-- the number of frames, a zero, then each, "zero where there is none"
unfoldable pub framed_octets : ℕ → List ℕ → List ℕ → List ℕ
framed_octets n first second = oct 1 n ++ (oct 1 0 ++ (first ++ second))

unfoldable pub frames_octets : Frames → List ℕ
frames_octets frames.None = framed_octets 0 (replicate 8 0) (replicate 8 0)
frames_octets (frames.One f) = framed_octets 1 (frame_octets f) (replicate 8 0)
frames_octets (frames.Two f g) = framed_octets 2 (frame_octets f) (frame_octets g)

unfoldable pub answer_octets : Report → List ℕ
answer_octets a = oct 1 (none_due_flag a.outcome) ++ (oct 1 (event_number a.event) ++ (oct 2 a.afresh ++ (a.address ++ frames_octets a.frames)))

abbrev pub is_refused : Outcome → Bool
is_refused outcome.Done = false
is_refused outcome.NoneDue = false
is_refused (outcome.Refused c) = true

-- "on a refusal every lent octet is as it was"
unfoldable pub answer_left : Report → List ℕ → List ℕ
answer_left a old = if is_refused a.outcome then old else answer_octets a

-- a call's whole outcome: the number returned, the table and the answer at exit
pub record Returns (r : ℕ) (t answer given : List ℕ) (l : Left) : Type 0 where
  pub returns : r ≡ returned l.answer.outcome
  pub leaves : t ≡ l.table
  pub answers : answer ≡ answer_left l.answer given

-- ---- parts, 20 octets: 0–1 sequence; 2–3 status; 4–5 group; 6–7 counter; 8–11 offset and 12–15 length of the part handed back, the token or what follows a
-- status 0 Confirm; 16–19 offset of the scalar or of a Confirm's value

-- a supported Commit and a 76 have a token, from octet 8 on
abbrev pub has_token : View → Bool
has_token v = (v.sequence is 1) && (v.listed || (v.status is 76))

-- a status 0 Confirm has a value, from octet 8 on
abbrev pub has_value : View → Bool
has_value v = (v.sequence is 2) && (v.status is 0)

-- "hands the trailing part back": from octet 40 on, also where it is empty
unfoldable pub handed_at : View → ℕ
handed_at v = if has_token v then 8 else if has_value v then 40 else 0

unfoldable pub handed_length : View → List ℕ → ℕ
handed_length v frame = if has_value v then length (elements_of frame) else v.toklen

-- a supported Commit's scalar stands after its token
unfoldable pub rest_at : View → ℕ
rest_at v = if v.listed then 8 + v.toklen else if has_value v then 8 else 0

-- what is not looked at is 0
unfoldable pub parts_octets : View → List ℕ → List ℕ
parts_octets v frame =
    oct 2 v.sequence ++ (oct 2 v.status ++ (oct 2 v.group ++ (oct 2 v.counter
    ++ (oct 4 (handed_at v) ++ (oct 4 (handed_length v frame) ++ oct 4 (rest_at v))))))

-- the reader refuses 2 and 7
unfoldable pub read_number : List ℕ → List ℕ → ℕ
read_number t frame = if sound t then (if (view (groups_of (decode_table t).header) frame).sequence is 0 then 7 else 0) else 2

unfoldable pub read_parts : List ℕ → List ℕ → List ℕ → List ℕ
read_parts t frame old =
    let v = view (groups_of (decode_table t).header) frame in
    if sound t then (if v.sequence is 0 then old else parts_octets v frame) else old

-- the same as a value: the octets of the parts, or the cause
unfoldable pub reading : List ℕ → List ℕ → Result (List ℕ) Refusal
reading t frame =
    let v = view (groups_of (decode_table t).header) frame in
    if sound t then (if v.sequence is 0 then Err why.Body else Ok (parts_octets v frame)) else Err why.Unsound

pub record Reads (r : ℕ) (parts : List ℕ) (given t frame : List ℕ) : Type 0 where
  pub returns : r ≡ read_number t frame
  pub leaves : parts ≡ read_parts t frame given

-- ---- a writer's whole outcome: the number returned, the buffer and the length written at exit

abbrev pub wrote_number : Result ℕ Refusal → ℕ
wrote_number (Ok n) = 0
wrote_number (Err c) = number c

abbrev pub written_left : Result ℕ Refusal → ℕ → ℕ
written_left (Ok n) old = n
written_left (Err c) old = old

-- a frame has at most 8 + 256 octets and those of a commit, 198 as a value has it
pub record Counted (w : Result ℕ Refusal) : Type 0 where
  pub most : (n : ℕ) → w ≡ Ok n → n ≤ 462

pub record Writes (r : ℕ) (out : List ℕ) (written given : ℕ) (l : LeftOut) : Type 0 where
  pub returns : r ≡ wrote_number l.answer
  pub leaves : out ≡ l.out
  pub counts : written ≡ written_left l.answer given

-- ---- a lookup's whole outcome: the number returned, and the number asked for at exit

abbrev pub asked_left : Result ℕ Refusal → ℕ → ℕ
asked_left (Ok n) old = n
asked_left (Err c) old = old

pub record Asks (r left given : ℕ) (a : Result ℕ Refusal) : Type 0 where
  pub returns : r ≡ asked_returned a
  pub leaves : left ≡ asked_left a given

-- ---- a fill's whole outcome: the number returned, and the table at exit

unfoldable pub fill_number : List ℕ → ℕ
fill_number t = if sound (filled t) then 0 else number why.Unsound

pub record Fills (r : ℕ) (left given : List ℕ) : Type 0 where
  pub returns : r ≡ fill_number given
  pub leaves : left ≡ fills given

-- ---- a move's whole outcome: the number returned, and the target at exit

pub record MovesTo (r : ℕ) (left : List ℕ) (m : Moved) : Type 0 where
  pub returns : r ≡ returned m.answer
  pub leaves : left ≡ m.target
