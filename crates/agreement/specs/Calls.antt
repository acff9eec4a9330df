-- The list of calls of two printers: what is handed over, the table that each call gets, and what it answers. Lists have the newest call first.
use Rattle.std.specs.Prelude.{◌≡◌, Bool, true, false, not, ◌&&◌, List, [], ◌∷◌, ℕ, ◌^◌, ◌<◌, length, if◌then◌else◌}
use Rattle.protocol.specs.Model.{Side, A, B}
use Rattle.octets.specs.Octets.{Bytes}
use Rattle.record.specs.Layout.{form_of}
use Rattle.good_links.specs.GoodLinks.{fills}
use Rattle.answers.specs.Outcome.{Outcome}
use Rattle.answers.specs.Outcome as outcome
use Rattle.answers.specs.Answers.{Report, Left, none_due}
use Rattle.calls.specs.Calls.{initializes_from, initiates, kills, receives, expires}
use Rattle.writer.specs.Writer.{LeftOut, writes_parts, writes_record}
use Rattle.moves.specs.declared.Direction.{Direction}
use Rattle.moves.specs.Moves.{Moved, moves}

-- "The writer takes the table and either a frame's parts or an address and which of its record's frames is wanted", and the buffer to write into
pub data Writing : Type 0 where
  write_parts : (sequence status group counter : ℕ) (token rest out : List ℕ) → Writing
  write_record : (address : List ℕ) (sequence : ℕ) (value out : List ℕ) → Writing

-- "Set up; start; kill; frame received; clock; write a frame", since request e the fill of the number of good links, and since request h the two moves ("One
-- call moves a table of 864-octet records to the 1,080 form, another moves it back"), with all that is handed over, the settings as C does. A table may be a
-- fresh one of either form: a set up is told by the record size of the form that it makes. This engine makes the one of 1,080 octets; the one of 864 was made
-- before, and is served; of any other size there is none, and the set up is refused. A move's source is its printer's table, and its target another buffer.
pub data Call : Type 0 where
  initialize : (size : ℕ) (buffer own settings : List ℕ) → Call
  initiate : (address : List ℕ) (time : ℕ) (fresh : List ℕ) → Call
  kill : (address : List ℕ) → Call
  receive : (address : List ℕ) (time : ℕ) (frame fresh expected : List ℕ) (verdict : ℕ) → Call
  expire : (time : ℕ) → Call
  write : (w : Writing) → Call
  fill : Call
  move : (d : Direction) (target : List ℕ) → Call

-- a call of a printer, and the 32 octets that its chip gives for the Confirm that the answer may send
pub record Entry : Type 0 where
  pub side : Side
  pub call : Call
  pub value : List ℕ

-- ---- what a caller can hand over at all: octets, six in an address, numbers in their types' ranges

pub record Octets (n : ℕ) (s : List ℕ) : Type 0 where
  pub many : length s ≡ n
  pub bytes : Bytes s

pub data WritingHanded : Writing → Type 0 where
  of_parts : {sequence status group counter : ℕ} {token rest out : List ℕ} → sequence < 2 ^ 16 → status < 2 ^ 16 → group < 2 ^ 16 → counter < 2 ^ 16
      → Bytes token → Bytes rest → Bytes out → WritingHanded (write_parts sequence status group counter token rest out)
  of_record : {address : List ℕ} {sequence : ℕ} {value out : List ℕ} → Octets 6 address → sequence < 2 ^ 16 → Bytes value → Bytes out
      → WritingHanded (write_record address sequence value out)

pub data CallHanded : Call → Type 0 where
  an_initialize : {size : ℕ} {buffer own settings : List ℕ} → Bytes buffer → Octets 6 own → Octets 16 settings → CallHanded (initialize size buffer own settings)
  an_initiate : {address : List ℕ} {time : ℕ} {fresh : List ℕ} → Octets 6 address → time < 2 ^ 32 → Bytes fresh → CallHanded (initiate address time fresh)
  a_kill : {address : List ℕ} → Octets 6 address → CallHanded (kill address)
  a_receive : {address : List ℕ} {time : ℕ} {frame fresh expected : List ℕ} {verdict : ℕ}
      → Octets 6 address → time < 2 ^ 32 → Bytes frame → Bytes fresh → Bytes expected → verdict < 2 ^ 8
      → CallHanded (receive address time frame fresh expected verdict)
  an_expire : {time : ℕ} → time < 2 ^ 32 → CallHanded (expire time)
  a_write : {w : Writing} → WritingHanded w → CallHanded (write w)
  a_fill : CallHanded fill
  a_move : {d : Direction} {target : List ℕ} → Bytes target → CallHanded (move d target)

pub record Handed (e : Entry) : Type 0 where
  pub call : CallHanded e.call
  pub value : Octets 32 e.value

pub data AllHanded : List Entry → Type 0 where
  none : AllHanded []
  more : {e : Entry} {h : List Entry} → Handed e → AllHanded h → AllHanded (e ∷ h)

-- ---- "Each call gets the table that its printer's last call left"

abbrev pub is_done : Outcome → Bool
is_done outcome.Done = true
is_done outcome.NoneDue = false
is_done (outcome.Refused c) = false

-- "Source and target are lent separately, and only one of them is used on": a move that is done makes its target the table, a refused one leaves the printer
-- its table
abbrev pub used_on : List ℕ → Moved → List ℕ
used_on t m = if is_done m.answer then m.target else t

-- what a call answers and leaves. The writer's is no step, as a clock call with nothing due is none: no event, no frames, no group, no address; nor is a
-- fill, nor a move
abbrev pub left : List ℕ → Call → Left
left t (initialize size buffer own settings) = initializes_from (form_of size) buffer own settings
left t (initiate address time fresh) = initiates t address time fresh
left t (kill address) = kills t address
left t (receive address time frame fresh expected verdict) = receives t address time frame fresh expected verdict
left t (expire time) = expires t time
left t (write w) = record { answer = none_due; table = t }
left t fill = record { answer = none_due; table = fills t }
left t (move d target) = record { answer = none_due; table = used_on t (moves d t target) }

-- what the writer answers and leaves of its buffer, from the table t
abbrev pub writes : List ℕ → Writing → LeftOut
writes t (write_parts sequence status group counter token rest out) = writes_parts t sequence status group counter token rest out
writes t (write_record address sequence value out) = writes_record t address sequence value out

-- the call is a step: neither refused, nor a clock call with nothing due, nor the writer's, nor a fill, nor a move
unfoldable pub done : List ℕ → Call → Bool
done t c = is_done (left t c).answer.outcome

abbrev pub is_initialize : Call → Bool
is_initialize (initialize size buffer own settings) = true
is_initialize (initiate address time fresh) = false
is_initialize (kill address) = false
is_initialize (receive address time frame fresh expected verdict) = false
is_initialize (expire time) = false
is_initialize (write w) = false
is_initialize fill = false
is_initialize (move d target) = false

-- "a set up that is not refused makes its buffer the table": a refused one leaves the old table
unfoldable pub table_after : List ℕ → Call → List ℕ
table_after t c = if is_initialize c && not (done t c) then t else (left t c).table

-- the first where the two printers are the same one, else the second
abbrev pub mine : {T : Type 0} → Side → Side → T → T → T
mine A A s t = s
mine A B s t = t
mine B A s t = t
mine B B s t = s

-- the table of X after the calls; before its first set up none, so that every call but a set up is refused 2
unfoldable pub table_of : List Entry → Side → List ℕ
table_of [] X = []
table_of (e ∷ h) X = mine e.side X (table_after (table_of h X) e.call) (table_of h X)

-- what the call e answers after the calls h, and whether it is a step
abbrev pub answer_of : List Entry → Entry → Report
answer_of h e = (left (table_of h e.side) e.call).answer

abbrev pub stepped : List Entry → Entry → Bool
stepped h e = done (table_of h e.side) e.call

-- ---- places in a list: the call e comes in h, after the calls `before`

pub data Comes (e : Entry) (before : List Entry) : List Entry → Type 0 where
  last : Comes e before (e ∷ before)
  sooner : {c : Entry} {h : List Entry} → Comes e before h → Comes e before (c ∷ h)

-- ---- the list without the writer's calls

abbrev pub is_write : Call → Bool
is_write (initialize size buffer own settings) = false
is_write (initiate address time fresh) = false
is_write (kill address) = false
is_write (receive address time frame fresh expected verdict) = false
is_write (expire time) = false
is_write (write w) = true
is_write fill = false
is_write (move d target) = false

unfoldable pub without_writes : List Entry → List Entry
without_writes [] = []
without_writes (e ∷ h) = if is_write e.call then without_writes h else e ∷ without_writes h
