-- "Others' calls reach a peer's record and answers only through Open against the threshold, free slots, and whose deadline the clock call takes": of a list of
-- calls, which are about the peer, what reaches it at them, and what they answer. Lists have the newest call first.
use Rattle.std.specs.Prelude.{◌≡◌, Bool, true, false, ◌&&◌, List, [], ◌∷◌, ℕ, ◌^◌, ◌<◌, length, if◌then◌else◌}
use Rattle.octets.specs.Octets.{Bytes, same_address}
use Rattle.table.specs.Table.{decode_table, belongs, look_by}
use Rattle.answers.specs.Answers.{Report, Left}
use Rattle.calls.specs.Calls.{crowded, full, initiates, kills, receives, due_slot, expires}
use Rattle.call_laws.specs.Alike.{SameFor}

-- "start; kill; frame received; clock", with all that is handed over. A set up is about every address and begins the table; the writer's calls leave it.
pub data PeerCall : Type 0 where
  initiate : (address : List ℕ) (time : ℕ) (fresh : List ℕ) → PeerCall
  kill : (address : List ℕ) → PeerCall
  receive : (address : List ℕ) (time : ℕ) (frame fresh expected : List ℕ) (verdict : ℕ) → PeerCall
  expire : (time : ℕ) → PeerCall

-- what a caller can hand over at all: octets, six in an address, numbers in their types' ranges
pub data Handed : PeerCall → Type 0 where
  an_initiate : {address : List ℕ} {time : ℕ} {fresh : List ℕ} → length address ≡ 6 → Bytes address → time < 2 ^ 32 → Bytes fresh
      → Handed (initiate address time fresh)
  a_kill : {address : List ℕ} → length address ≡ 6 → Bytes address → Handed (kill address)
  a_receive : {address : List ℕ} {time : ℕ} {frame fresh expected : List ℕ} {verdict : ℕ}
      → length address ≡ 6 → Bytes address → time < 2 ^ 32 → Bytes frame → Bytes fresh → Bytes expected → verdict < 2 ^ 8
      → Handed (receive address time frame fresh expected verdict)
  an_expire : {time : ℕ} → time < 2 ^ 32 → Handed (expire time)

pub data AllHanded : List PeerCall → Type 0 where
  none : AllHanded []
  more : {c : PeerCall} {cs : List PeerCall} → Handed c → AllHanded cs → AllHanded (c ∷ cs)

-- what a call answers and leaves
abbrev pub left : List ℕ → PeerCall → Left
left t (initiate address time fresh) = initiates t address time fresh
left t (kill address) = kills t address
left t (receive address time frame fresh expected verdict) = receives t address time frame fresh expected verdict
left t (expire time) = expires t time

-- the table after a list of calls
unfoldable pub after : List ℕ → List PeerCall → List ℕ
after t [] = t
after t (c ∷ cs) = (left (after t cs) c).table

-- ---- whom a call is about

-- the address that it is handed; of the clock call, the peer "whose deadline the clock call takes": where none is due, nobody
abbrev pub about : List ℕ → List ℕ → PeerCall → Bool
about a t (initiate address time fresh) = same_address address a
about a t (kill address) = same_address address a
about a t (receive address time frame fresh expected verdict) = same_address address a
about a t (expire time) = belongs a (look_by (decode_table t) (due_slot (decode_table t) time))

-- ---- what reaches the peer at a call about it: the call, and "Open against the threshold, free slots" at a start and a frame; kill and clock ask neither

abbrev pub asks : PeerCall → Bool
asks (initiate address time fresh) = true
asks (kill address) = false
asks (receive address time frame fresh expected verdict) = true
asks (expire time) = false

pub record Reach : Type 0 where
  pub call : PeerCall
  pub crowded : Bool
  pub full : Bool

abbrev pub reach : List ℕ → PeerCall → Reach
reach t c = record { call = c; crowded = asks c && crowded (decode_table t).header; full = asks c && full (decode_table t) }

-- ---- of a list of calls from the table t

-- what reaches the address a
unfoldable pub reaches : List ℕ → List ℕ → List PeerCall → List Reach
reaches a t [] = []
reaches a t (c ∷ cs) = if about a (after t cs) c then reach (after t cs) c ∷ reaches a t cs else reaches a t cs

-- what the calls about it answer
unfoldable pub answers : List ℕ → List ℕ → List PeerCall → List Report
answers a t [] = []
answers a t (c ∷ cs) = if about a (after t cs) c then (left (after t cs) c).answer ∷ answers a t cs else answers a t cs

-- what isolation says of two lists of calls: the same answers about the address, and tables that are the same for it
pub record Isolation (t u a : List ℕ) (cs ds : List PeerCall) : Type 0 where
  pub answers : answers a t cs ≡ answers a u ds
  pub left : SameFor (after t cs) (after u ds) a
