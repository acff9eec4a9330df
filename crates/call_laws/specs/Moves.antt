-- AFTER A MOVE: "After either move, any further calls but set up and moves, confined to groups 19 and 20, get the answers that the unmoved table would have
-- given to the same stocks in its own length." Which stocks are the same, which calls are further ones, what each answers and leaves, and what is said of two
-- lists of them. A narrow table lists no group but 19 and 20, and its target the same ones: a frame of another group is a further call as any.
use Rattle.std.specs.Prelude.{◌≡◌, Bool, List, [], ◌∷◌, ◌++◌, ℕ, zero, suc, ◌*◌, length, take, drop, Result}
use Rattle.groups.specs.Groups.{stored, fresh_of}
use Rattle.record.specs.Layout.{groups_of}
use Rattle.table.specs.Table.{decode_table, sound}
use Rattle.good_links.specs.GoodLinks.{filled, fills}
use Rattle.message.specs.declared.View.{View}
use Rattle.message.specs.View.{view}
use Rattle.answers.specs.Answers.{Report}
use Rattle.writer.specs.Writer.{LeftOut, writes_parts, writes_record}
use Rattle.lookups.specs.Lookups.{asks_deadline, asks_good}
use Rattle.moves.specs.Moves.{SameContents}
use Rattle.call_laws.specs.Isolation.{PeerCall, initiate, kill, receive, expire, Handed, left}
use Rattle.causes.specs.declared.Refusal.{Refusal}

-- ---- "the same stocks in its own length": of n groups, W octets for each in s, W' for each in z

pub data SameStock (W W' n : ℕ) (s z : List ℕ) : Type 0 where
  -- both have their own length and the same parts as values: what differs is the zeros that fill them up
  same_parts : length s ≡ W * n → length z ≡ W' * n → fresh_of W s ≡ fresh_of W' z → SameStock W W' n s z
  -- a wrong length on both sides, 4 at both
  both_wrong : (length s ≡ W * n → ⊥) → (length z ≡ W' * n → ⊥) → SameStock W W' n s z

-- the stock of the other length with the same parts: each cut or filled up with zeros
unfoldable pub refilled : ℕ → ℕ → ℕ → List ℕ → List ℕ
refilled W W' zero s = []
refilled W W' (suc n) s = take W' (stored (take W s)) ++ refilled W W' n (drop W s)

-- ---- "any further calls but set up and moves": start, kill, frame received, clock; the fill, the two writers, the reader, the panel's question (with the
-- table's own 32 header octets) and how long until the clock call is wanted. Where a record lies is an offset in its own form: `find-alike`

pub data Further : Type 0 where
  call : PeerCall → Further
  fill : Further
  write_parts : (sequence status group counter : ℕ) (token rest out : List ℕ) → Further
  write_record : (address : List ℕ) (sequence : ℕ) (value out : List ℕ) → Further
  read : (frame : List ℕ) → Further
  good : Further
  deadline : (time : ℕ) → Further

-- what a further call answers: of a fill whether it is done, or refused 2; what a writer answers and leaves of the buffer; of the reader whether the table is
-- sound, and all that it sees of the frame
pub data Reply : Type 0 where
  answered : Report → Reply
  filled_so : Bool → Reply
  wrote : LeftOut → Reply
  heard : Bool → View → Reply
  told : Result ℕ Refusal → Reply

abbrev pub reply : List ℕ → Further → Reply
reply t (call c) = answered (left t c).answer
reply t fill = filled_so (sound (filled t))
reply t (write_parts sequence status group counter token rest out) = wrote (writes_parts t sequence status group counter token rest out)
reply t (write_record address sequence value out) = wrote (writes_record t address sequence value out)
reply t (read frame) = heard (sound t) (view (groups_of (decode_table t).header) frame)
reply t good = told (asks_good (take 32 t))
reply t (deadline time) = told (asks_deadline t time)

-- the table that it leaves: but for the calls about peers and the fill they only read
abbrev pub leaves : List ℕ → Further → List ℕ
leaves t (call c) = (left t c).table
leaves t fill = fills t
leaves t (write_parts sequence status group counter token rest out) = t
leaves t (write_record address sequence value out) = t
leaves t (read frame) = t
leaves t good = t
leaves t (deadline time) = t

-- ---- lists of further calls, the newest first

-- the table after them
unfoldable pub after_all : List ℕ → List Further → List ℕ
after_all t [] = t
after_all t (c ∷ cs) = leaves (after_all t cs) c

-- and all that they answer
unfoldable pub replies : List ℕ → List Further → List Reply
replies t [] = []
replies t (c ∷ cs) = reply (after_all t cs) c ∷ replies t cs

-- what a caller can hand over at all: `Handed` for the calls about peers; of the others nothing is asked
pub data HandedOver : Further → Type 0 where
  a_call : {c : PeerCall} → Handed c → HandedOver (call c)
  a_fill : HandedOver fill
  a_parts : {sequence status group counter : ℕ} {token rest out : List ℕ} → HandedOver (write_parts sequence status group counter token rest out)
  a_record : {address : List ℕ} {sequence : ℕ} {value out : List ℕ} → HandedOver (write_record address sequence value out)
  a_frame : {frame : List ℕ} → HandedOver (read frame)
  a_question : HandedOver good
  a_time : {time : ℕ} → HandedOver (deadline time)

pub data AllHandedOver : List Further → Type 0 where
  none : AllHandedOver []
  more : {c : Further} {cs : List Further} → HandedOver c → AllHandedOver cs → AllHandedOver (c ∷ cs)

-- ---- the same call at both tables: the same stock where it brings one, each in its own length, and all else the same

pub data Partner (W W' n : ℕ) : Further → Further → Type 0 where
  same_start : {address : List ℕ} {time : ℕ} {s z : List ℕ} → SameStock W W' n s z → Partner W W' n (call (initiate address time s)) (call (initiate address time z))
  same_kill : {address : List ℕ} → Partner W W' n (call (kill address)) (call (kill address))
  same_frame : {address : List ℕ} {time : ℕ} {frame s z expected : List ℕ} {verdict : ℕ} → SameStock W W' n s z
      → Partner W W' n (call (receive address time frame s expected verdict)) (call (receive address time frame z expected verdict))
  same_clock : {time : ℕ} → Partner W W' n (call (expire time)) (call (expire time))
  same_fill : Partner W W' n fill fill
  same_parts_written : {sequence status group counter : ℕ} {token rest out : List ℕ}
      → Partner W W' n (write_parts sequence status group counter token rest out) (write_parts sequence status group counter token rest out)
  same_record_written : {address : List ℕ} {sequence : ℕ} {value out : List ℕ} → Partner W W' n (write_record address sequence value out) (write_record address sequence value out)
  same_read : {frame : List ℕ} → Partner W W' n (read frame) (read frame)
  same_good : Partner W W' n good good
  same_deadline : {time : ℕ} → Partner W W' n (deadline time) (deadline time)

pub data Partners (W W' n : ℕ) : List Further → List Further → Type 0 where
  both_end : Partners W W' n [] []
  both_more : {c d : Further} {cs ds : List Further} → Partner W W' n c d → Partners W W' n cs ds → Partners W W' n (c ∷ cs) (d ∷ ds)

-- what is said of two lists of further calls: "the answers that the unmoved table would have given", and tables that stay alike
pub record AnsweredAlike (t u : List ℕ) (cs ds : List Further) : Type 0 where
  pub replies : replies t cs ≡ replies u ds
  pub left : SameContents (after_all t cs) (after_all u ds)
