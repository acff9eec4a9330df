-- "A deadline then moves only when a frame is sent, or a run or link starts or ends" (request b): of an address, the table t and what a call leaves of it.
use Rattle.std.specs.Prelude.{◌≡◌, Bool, true, false, List, ℕ}
use Rattle.table.specs.Table.{decode_table, look}
use Rattle.rules.specs.declared.Event.TheVariants as event
use Rattle.rules.specs.declared.Frames.TheVariants.{None}
use Rattle.rule_laws.specs.Deadlines.{Still, Ends}
use Rattle.answers.specs.Answers.{Left}
use Rattle.call_laws.specs.Isolation.{PeerCall, initiate, kill, receive, expire}

-- t0 and t1 of the address's record are what they were
abbrev pub StillAt : List ℕ → List ℕ → Left → Type 0
StillAt t a l = Still (look (decode_table t) a) (look (decode_table l.table) a)

-- the call's answer is about the address, and sends a frame, or the address's run or link ends; the answer tells the end by its event, unless it may go untold
pub data Moves (t a : List ℕ) (untold : Bool) (l : Left) : Type 0 where
  sends : l.answer.address ≡ a → (l.answer.frames ≡ None → ⊥) → Moves t a untold l
  ends : l.answer.address ≡ a → Ends (look (decode_table t) a) (look (decode_table l.table) a) → (l.answer.event ≡ event.None → untold ≡ true) → Moves t a untold l

-- a kill answers nothing, though it ends a run or a link
abbrev pub is_kill : PeerCall → Bool
is_kill (initiate address time fresh) = false
is_kill (kill address) = true
is_kill (receive address time frame fresh expected verdict) = false
is_kill (expire time) = false

-- the call answers no frame and no event
pub record Silent (l : Left) : Type 0 where
  pub frames : l.answer.frames ≡ None
  pub event : l.answer.event ≡ event.None
