-- THE LOOKUPS: what a host asks of a table that stays as it is. How long until the clock call is wanted next; where the record of an address lies; how many
-- good links.
use Rattle.std.specs.Prelude.{ℕ, zero, suc, ◌+◌, ◌-◌, ◌%◌, ◌^◌, Bool, List, nat_lt, if◌then◌else◌, Result, Ok, Err, Option, Some, None}
use Rattle.causes.specs.Causes.{number}
use Rattle.record.specs.declared.Peer.{Peer}
use Rattle.record.specs.Layout.{decode_header, record_at}
use Rattle.table.specs.Table.{Table, width_of, decode_table, slots, slot, sound, entry}
use Rattle.good_links.specs.GoodLinks.{possible}
use Rattle.rules.specs.Book.{due, has_run, has_link}
use Rattle.causes.specs.declared.Refusal.TheVariants as why
use Rattle.causes.specs.declared.Refusal.{Refusal}

-- what a lookup returns: 0, or the cause's number
abbrev pub asked_returned : Result ℕ Refusal → ℕ
asked_returned (Ok n) = 0
asked_returned (Err c) = number c

-- ---- the next deadline

-- the reading some time later: "a 32-bit count of milliseconds that wraps"
abbrev pub later : ℕ → ℕ → ℕ
later time wait = (time + wait) % 2 ^ 32

-- all ones: there is none. A time left is 2^31 at most
abbrev pub no_deadline : ℕ
no_deadline = 4294967295

-- the time left until a deadline: none if it is due; else it lies (deadline − reading) modulo 2^32 ahead
unfoldable pub time_left : ℕ → ℕ → ℕ
time_left time deadline = if due time deadline then 0 else (deadline + 2 ^ 32 - time) % 2 ^ 32

-- all ones for a deadline that does not count
abbrev pub left_if : Bool → ℕ → ℕ → ℕ
left_if counts time deadline = if counts then time_left time deadline else no_deadline

abbrev pub lesser : ℕ → ℕ → ℕ
lesser a b = if nat_lt b a then b else a

-- the time left until the earlier deadline of a record: t0 counts only with a run, t1 only with a link
unfoldable pub peer_left : Peer → ℕ → ℕ
peer_left p time = lesser (left_if (has_run p) time p.run.t0) (left_if (has_link p) time p.link.t1)

-- the least value of f below n; all ones where there is none
unfoldable pub least_below : (ℕ → ℕ) → ℕ → ℕ
least_below f zero = no_deadline
least_below f (suc n) = lesser (least_below f n) (f n)

-- the time left until the earliest deadline of the table
unfoldable pub next_deadline : Table → ℕ → ℕ
next_deadline T time = least_below (λ k. peer_left (slot T k) time) (slots T)

-- cause 2
unfoldable pub asks_deadline : List ℕ → ℕ → Result ℕ Refusal
asks_deadline t time = if sound t then Ok (next_deadline (decode_table t) time) else Err why.Unsound

-- ---- where a record lies: after the header and the slots before its own; 0 where there is none. Causes 2, 3

unfoldable pub offset_by : Result (Option ℕ) Refusal → ℕ → Result ℕ Refusal
offset_by (Err c) W = Err c
offset_by (Ok None) W = Ok 0
offset_by (Ok (Some k)) W = Ok (record_at W k)

unfoldable pub asks_offset : List ℕ → List ℕ → Result ℕ Refusal
asks_offset t address = offset_by (entry t address) (width_of t)

-- ---- how many good links: "The panel's question reads the 32 header octets alone"

-- cause 2, "exactly when it is not given 32 octets or no sound table starts with them"
unfoldable pub asks_good : List ℕ → Result ℕ Refusal
asks_good header = if possible header then Ok (decode_header header).counts.good else Err why.Unsound
