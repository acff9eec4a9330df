-- What calls answer: the report of a call, where a record is worked on, and the end of every call.
use Rattle.std.specs.Prelude.{◌≡◌, true, List, ℕ, ◌<◌, replicate, if◌then◌else◌, Option, Some, None, Result, Ok, Err}
use Rattle.rules.specs.declared.Event.{Event}
use Rattle.rules.specs.declared.Event.TheVariants as event
use Rattle.rules.specs.declared.Frames.{Frames}
use Rattle.rules.specs.declared.Frames.TheVariants as frames
use Rattle.rules.specs.Book.{Step}
use Rattle.rules.specs.declared.Said.{Said}
use Rattle.rules.specs.Said.{saying}
use Rattle.table.specs.Table.{Table, decode_table, encode_table, slots, free_slot, sound, with_peer, recounted}
use Rattle.causes.specs.declared.Refusal.{Refusal}
use Rattle.causes.specs.declared.Refusal.TheVariants as why
use Rattle.causes.specs.Causes.{number}
use Rattle.answers.specs.Outcome.{Outcome}
use Rattle.answers.specs.Outcome as outcome
use Rattle.answers.specs.declared.Answer.{Answer}

-- ---- what a caller is told of a call: how it came out, and what it answers, zero where that is nothing

pub record Report : Type 0 where
  pub outcome : Outcome
  pub event : Event
  pub frames : Frames
  pub afresh : ℕ
  pub address : List ℕ

-- what a caller gets: 0, or the cause's number
abbrev pub returned : Outcome → ℕ
returned outcome.Done = 0
returned outcome.NoneDue = 0
returned (outcome.Refused c) = number c

-- "All return the number and no frames."
unfoldable pub refused : Refusal → Report
refused c = record { outcome = outcome.Refused c; event = event.None; frames = frames.None; afresh = 0; address = replicate 6 0 }

-- "or says none is due, the rest of its answer zero"
unfoldable pub none_due : Report
none_due = record { outcome = outcome.NoneDue; event = event.None; frames = frames.None; afresh = 0; address = replicate 6 0 }

-- "A step answers: host event; frames to send, in order; stock group used or 0; the address."
abbrev pub answered : Said → List ℕ → Report
answered s address = record { outcome = outcome.Done; event = s.event; frames = s.frames; afresh = s.afresh; address = address }

unfoldable pub said : Step → List ℕ → Report
said s address = answered (saying s) address

-- "Set up and kill answer event 0, no frames, group 0 and the address given."
unfoldable pub quiet : List ℕ → Report
quiet address = record { outcome = outcome.Done; event = event.None; frames = frames.None; afresh = 0; address = address }

-- ---- the same as a value of the code: a refusal, none due, or an answer

-- what a step, and a call without one, answer
abbrev pub answer_of : Said → List ℕ → Answer
answer_of s address = record { event = s.event; frames = s.frames; afresh = s.afresh; address = address }

abbrev pub quiet_answer : List ℕ → Answer
quiet_answer address = record { event = event.None; frames = frames.None; afresh = 0; address = address }

-- what a result tells
abbrev pub telling : Answer → Report
telling a = record { outcome = outcome.Done; event = a.event; frames = a.frames; afresh = a.afresh; address = a.address }

abbrev pub told : Result Answer Refusal → Report
told (Ok a) = telling a
told (Err c) = refused c

-- of the clock, which may find none due
abbrev pub told_if_due : Result (Option Answer) Refusal → Report
told_if_due (Ok (Some a)) = telling a
told_if_due (Ok None) = none_due
told_if_due (Err c) = refused c

-- ---- what a call answers and the table that it leaves

pub record Left : Type 0 where
  pub answer : Report
  pub table : List ℕ

-- a contract: the answer and the table at exit are those
pub record Leaves (r : Report) (u : List ℕ) (l : Left) : Type 0 where
  pub answer : r ≡ l.answer
  pub table : u ≡ l.table

-- a refusal leaves every octet
abbrev pub refuse : List ℕ → Refusal → Left
refuse t c = record { answer = refused c; table = t }

-- ---- where a record is worked on: the slot of its address; "a new peer takes the free slot nearest the end"; nowhere if none is free

unfoldable pub seating : Table → Option ℕ → Option ℕ
seating T (Some k) = Some k
seating T None = free_slot T

-- THE END of every call that is not refused: the counts are made true. Of a sound table in which nothing was changed they are, and it stays octet for octet
-- (`unchanged-ends`).
unfoldable pub ends : Report → Table → Left
ends answer T = record { answer = answer; table = encode_table (recounted T) }

-- the end of a step: its record is stored in its slot; without a slot nothing is
unfoldable pub finish_at : Option ℕ → List ℕ → Step → List ℕ → Left
finish_at (Some k) t s address = ends (said s address) (with_peer (decode_table t) k s.peer)
finish_at None t s address = ends (said s address) (decode_table t)

-- "New record needed, no free slot": 9
unfoldable pub finishes : List ℕ → Option ℕ → Step → List ℕ → Left
finishes t f s address = if s.refused then refuse t why.Full else finish_at (seating (decode_table t) f) t s address

-- a call about an address: a refusal, or a step of the record that was found
unfoldable pub turned : Result (Option ℕ) Refusal → (Option ℕ → Step) → List ℕ → List ℕ → Left
turned (Err c) g t address = refuse t c
turned (Ok f) g t address = finishes t f (g f) address

-- what a step asks: a sound table, and a slot of it
pub record Seated (t : List ℕ) (f : Option ℕ) : Type 0 where
  pub whole : sound t ≡ true
  pub below : (k : ℕ) → f ≡ Some k → k < slots (decode_table t)
