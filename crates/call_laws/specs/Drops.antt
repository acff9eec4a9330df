-- "Henceforth a dropped frame changes nothing in the table … a user can rely on that for every drop in 01's rules" (request b): of a frame call, that its
-- frame is dropped, and what it then leaves and answers. A drop is told by the rules, not by an empty answer.
use Rattle.std.specs.Prelude.{◌≡◌, List, [], ◌∷◌, ℕ}
use Rattle.record.specs.Layout.{groups_of}
use Rattle.table.specs.Table.{decode_table, finds, look}
use Rattle.rules.specs.Book.{◌is◌}
use Rattle.rules.specs.Asked.{Drops}
use Rattle.message.specs.View.{message}
use Rattle.answers.specs.Outcome as outcome
use Rattle.answers.specs.Answers.{Left, quiet}
use Rattle.calls.specs.Calls.{terms_of, clock_of, fresh_in, brings}
use Rattle.call_laws.specs.Isolation.{PeerCall, receive}

-- one of the places of Drops holds for what the call is handed
abbrev pub FrameDrops : List ℕ → List ℕ → ℕ → List ℕ → List ℕ → List ℕ → ℕ → Type 0
FrameDrops t a time frame fresh expected verdict =
    Drops (terms_of (decode_table t) (finds (decode_table t) a)) (brings a (clock_of (decode_table t).header time) (fresh_in (decode_table t).header fresh) expected (verdict is 1))
    (look (decode_table t) a) (message (groups_of (decode_table t).header) frame)

-- the table left is the table lent, octet for octet; unless it is refused, the call answers event 0, no frames, group 0 and the address given
pub record Unchanged (t a : List ℕ) (l : Left) : Type 0 where
  pub table : l.table ≡ t
  pub answer : l.answer.outcome ≡ outcome.Done → l.answer ≡ quiet a

-- frame calls alone, whoever they are about, each of a frame that is dropped at the table t
pub data AllDrop (t : List ℕ) : List PeerCall → Type 0 where
  no_more : AllDrop t []
  one_more : {a : List ℕ} {time : ℕ} {frame fresh expected : List ℕ} {verdict : ℕ} {cs : List PeerCall}
      → FrameDrops t a time frame fresh expected verdict → AllDrop t cs → AllDrop t (receive a time frame fresh expected verdict ∷ cs)
