-- The writer: from a frame's parts, or from a record; what it answers and what it leaves of the lent buffer.
use Rattle.std.specs.Prelude.{◌≡◌, List, ℕ, ◌≤◌, take, if◌then◌else◌, Result, Ok, Err, Option, Some, None}
use Rattle.groups.specs.Groups.{commit_length}
use Rattle.frame.specs.Writing.{Drawn, Outside, draw_commit, draw_confirm, parts_body, written, leaves}
use Rattle.record.specs.declared.Peer.{Peer}
use Rattle.record.specs.Layout.{groups_of}
use Rattle.table.specs.Table.{decode_table, slot, sound, entry}
use Rattle.rules.specs.Book.{◌is◌, ◌isnt◌}
use Rattle.causes.specs.declared.Refusal.{Refusal}
use Rattle.causes.specs.declared.Refusal.TheVariants as why

-- what a writer answers and leaves of the buffer
pub record LeftOut : Type 0 where
  pub answer : Result ℕ Refusal
  pub out : List ℕ

pub record LeavesOut (r : Result ℕ Refusal) (u : List ℕ) (l : LeftOut) : Type 0 where
  pub answer : r ≡ l.answer
  pub out : u ≡ l.out

abbrev pub refuse_out : List ℕ → Refusal → LeftOut
refuse_out out c = record { answer = Err c; out = out }

-- outside the shapes is 7, longer than the buffer 11: as the frame's writer has it
unfoldable pub draws : Drawn → List ℕ → LeftOut
draws d out = record { answer = written d out; out = leaves d out }

-- ---- from a frame's parts: causes 2, 7, 11

unfoldable pub writes_parts : List ℕ → ℕ → ℕ → ℕ → ℕ → List ℕ → List ℕ → List ℕ → LeftOut
writes_parts t sequence status group counter token rest out =
    if sound t then draws (parts_body (groups_of (decode_table t).header) sequence status group counter token rest) out
    else refuse_out out why.Unsound

-- ---- from a record: causes 2, 3, 7, 11

-- "the run's Commit": group, stored token, own commit
unfoldable pub record_commit : List ℕ → Peer → Drawn
record_commit groups p =
    if p.run.state is 0 then Outside
    else draw_commit groups p.run.group (take p.run.toklen p.run.token) (take (commit_length p.run.group) p.run.own)

-- "or the Confirm, whose counter is Sc for a run in Confirmed and 65,535 for a link with no run"
unfoldable pub record_confirm : Peer → List ℕ → Drawn
record_confirm p value =
    if p.run.state is 2 then draw_confirm p.run.sc value
    else if p.run.state isnt 0 then Outside
    else if p.link.finished isnt 0 then draw_confirm 65535 value
    else Outside

-- "A frame asked for an address without a record, of a record that has none such, or outside the shapes, is 7."
unfoldable pub record_body : List ℕ → Peer → ℕ → List ℕ → Drawn
record_body groups p sequence value =
    if sequence is 1 then record_commit groups p
    else if sequence is 2 then record_confirm p value
    else Outside

-- what the writer of a record asks of a run in it, and one of a sound table has: a token of at most 256 octets, and a group whose commits the width has room for
pub record Bounded (p : Peer) (W : ℕ) : Type 0 where
  pub token : (p.run.state ≡ 0 → ⊥) → p.run.toklen ≤ 256
  pub own : (p.run.state ≡ 0 → ⊥) → commit_length p.run.group ≤ W

unfoldable pub writes_record_by : Result (Option ℕ) Refusal → List ℕ → ℕ → List ℕ → List ℕ → LeftOut
writes_record_by (Err c) t sequence value out = refuse_out out c
writes_record_by (Ok None) t sequence value out = refuse_out out why.Body
writes_record_by (Ok (Some k)) t sequence value out = draws (record_body (groups_of (decode_table t).header) (slot (decode_table t) k) sequence value) out

unfoldable pub writes_record : List ℕ → List ℕ → ℕ → List ℕ → List ℕ → LeftOut
writes_record t address sequence value out = writes_record_by (entry t address) t sequence value out
