-- The lent table as a value, a header and a list of records: its octets, its form, its searches, and a record placed in a slot.
use Rattle.std.specs.Prelude.{◌≡◌, Bool, true, not, ◌&&◌, ◌||◌, List, [], ◌∷◌, ◌++◌, ℕ, zero, suc, ◌+◌, ◌-◌, ◌/◌, ◌≤◌, ◌<◌, eqb, leb, length, take, drop, get_or, set, if◌then◌else◌, Option, Some, None, Result, Ok, Err}
use Rattle.octets.specs.Octets.{num, same_address}
use Rattle.octets.specs.Scan.{all_below, count_below, first_below, last_below, bit}
use Rattle.groups.specs.Groups.{width}
use Rattle.record.specs.declared.Peer.{Peer}
use Rattle.record.specs.declared.Counts.{Counts}
use Rattle.record.specs.declared.Header.{Header}
use Rattle.record.specs.Layout.{encode_peer, decode_peer, encode_header, decode_header, counted, groups_of, width_in, record_size, record_at, no_peer}
use Rattle.soundness.specs.Soundness.{usable, header_ok, high_sync, peer_ok}
use Rattle.table.specs.declared.Standing.{Standing}
use Rattle.table.specs.declared.Entrance.{Entrance}
use Rattle.causes.specs.declared.Refusal.{Refusal}
use Rattle.causes.specs.declared.Refusal.TheVariants as why

pub record Table : Type 0 where
  pub header : Header
  pub peers : List Peer

-- ---- octets: what a record stores a commit with, W, is the table's width, and whoever has the value does not see it

-- n records
unfoldable pub peers_of : ℕ → ℕ → List ℕ → List Peer
peers_of W zero s = []
peers_of W (suc n) s = decode_peer W (take (record_size W) s) ∷ peers_of W n (drop (record_size W) s)

unfoldable pub octets_of : ℕ → List Peer → List ℕ
octets_of W [] = []
octets_of W (p ∷ ps) = encode_peer W p ++ octets_of W ps

-- the width that a table's record size tells
abbrev pub width_of : List ℕ → ℕ
width_of t = width_in (decode_header t)

-- as many records as there are octets for
unfoldable pub decode_table : List ℕ → Table
decode_table t = record { header = decode_header t; peers = peers_of (width_of t) ((length t - 32) / record_size (width_of t)) (drop 32 t) }

unfoldable pub encode_table : Table → List ℕ
encode_table T = encode_header T.header ++ octets_of (width_in T.header) T.peers

-- ---- slots

abbrev pub slots : Table → ℕ
slots T = T.header.geometry.slots

-- the record of a slot
unfoldable pub slot : Table → ℕ → Peer
slot T k = get_or T.peers k no_peer

abbrev pub in_use : Peer → Bool
in_use p = eqb p.used 1

-- "Open, the records whose run is Committed or Confirmed"
abbrev pub is_open : Peer → Bool
is_open p = eqb p.run.state 1 || eqb p.run.state 2

-- a good link: "finished links with a clear mark"
abbrev pub is_good : Peer → Bool
is_good p = eqb p.link.finished 1 && eqb p.link.superseded 0

-- a record in use that has the address
unfoldable pub belongs : List ℕ → Peer → Bool
belongs a p = in_use p && same_address p.address a

-- "2–3 slots in use; 4–5 Open"
unfoldable pub used_count : Table → ℕ
used_count T = count_below (λ k. in_use (slot T k)) (slots T)

unfoldable pub open_count : Table → ℕ
open_count T = count_below (λ k. is_open (slot T k)) (slots T)

-- "Header octets 12–13 keep it", the number of good links
unfoldable pub good_count : Table → ℕ
good_count T = count_below (λ k. is_good (slot T k)) (slots T)

-- the counts of a table's records
abbrev pub counts_of : Table → Counts
counts_of T = record { used = used_count T; opened = open_count T; good = good_count T }

-- the slot of an address
unfoldable pub finds : Table → List ℕ → Option ℕ
finds T a = first_below (λ k. belongs a (slot T k)) (slots T)

-- "A new peer takes the free slot nearest the end."
unfoldable pub free_slot : Table → Option ℕ
free_slot T = last_below (λ k. eqb (slot T k).used 0) (slots T)

-- the record of an address, an empty one where it has none
unfoldable pub look_by : Table → Option ℕ → Peer
look_by T (Some k) = slot T k
look_by T None = no_peer

unfoldable pub look : Table → List ℕ → Peer
look T a = look_by T (finds T a)

-- ---- the form of the table

-- the record of each slot has its form
unfoldable pub slots_ok : Table → Bool
slots_ok T = all_below (λ k. peer_ok T.header.own (groups_of T.header) (high_sync T.header) (slot T k)) (slots T)

-- no slot before has the address of this one, if it is in use
unfoldable pub alone : Table → ℕ → Bool
alone T k = not (in_use (slot T k)) || all_below (λ j. not (belongs (slot T k).address (slot T j))) k

-- "Addresses differ."
unfoldable pub addresses_ok : Table → Bool
addresses_ok T = all_below (alone T) (slots T)

-- the header's counts are true
unfoldable pub counts_ok : Table → Bool
counts_ok T =
    eqb T.header.counts.used (counts_of T).used
    && (eqb T.header.counts.opened (counts_of T).opened
    && eqb T.header.counts.good (counts_of T).good)

-- "The table's length is 32 + 864 × N", or 32 + 1,080 × N: by the form that the record size tells, never the other way round
unfoldable pub sound : List ℕ → Bool
sound t =
    leb 32 (length t)
    && (header_ok (decode_table t).header
    && (eqb (length t) (record_at (width_of t) (slots (decode_table t)))
    && (slots_ok (decode_table t)
    && (addresses_ok (decode_table t)
    && counts_ok (decode_table t)))))

-- ---- what every call about an address begins with: causes 2 and 3, then the record's slot

unfoldable pub entry : List ℕ → List ℕ → Result (Option ℕ) Refusal
entry t a =
    if not (sound t) then Err why.Unsound
    else if not (usable (decode_table t).header.own a) then Err why.Address
    else Ok (finds (decode_table t) a)

-- ---- a record placed in a slot, the counts made true

unfoldable pub recounted : Table → Table
recounted T = record { header = counted T.header (counts_of T); peers = T.peers }

unfoldable pub with_peer : Table → ℕ → Peer → Table
with_peer T k p = record { header = T.header; peers = set T.peers k p }

unfoldable pub placed : Table → ℕ → Peer → Table
placed T k p = recounted (with_peer T k p)

-- what a record adds to the three counts
abbrev pub standing_of : Peer → Standing
standing_of p = record { used = in_use p; opened = is_open p; good = is_good p }

-- what `recount` asks of the octets: a table of the right length whose counts are true but for one record's share, which is still what it was
pub record Changed (t : List ℕ) (k : ℕ) (h : Header) (was : Standing) : Type 0 where
  pub fits : record_at (width_of t) k + record_size (width_of t) ≤ length t
  pub whole : length t ≡ record_at (width_of t) (slots (decode_table t))
  pub small : slots (decode_table t) ≤ 64
  pub header : h ≡ (decode_table t).header
  pub used : (decode_table t).header.counts.used + bit (in_use (slot (decode_table t) k)) ≡ used_count (decode_table t) + bit was.used
  pub opened : (decode_table t).header.counts.opened + bit (is_open (slot (decode_table t) k)) ≡ open_count (decode_table t) + bit was.opened
  pub good : (decode_table t).header.counts.good + bit (is_good (slot (decode_table t) k)) ≡ good_count (decode_table t) + bit was.good

-- what a change of a slot's record asks of the octets: a slot of a table whose length and counts are right
pub record Ready (t : List ℕ) (k : ℕ) : Type 0 where
  pub fits : record_at (width_of t) k + record_size (width_of t) ≤ length t
  pub whole : length t ≡ record_at (width_of t) (slots (decode_table t))
  pub below : k < slots (decode_table t)
  pub small : slots (decode_table t) ≤ 64
  pub counts : (decode_table t).header.counts ≡ counts_of (decode_table t)

-- ---- addresses as numbers

-- one above the number of a record's address, 0 where it is not in use
unfoldable pub key : Peer → ℕ
key p = if in_use p then num p.address + 1 else 0

-- no key before is the same, if it is not 0
unfoldable pub new_key : List ℕ → ℕ → Bool
new_key keys k = eqb (get_or keys k 0) 0 || all_below (λ j. not (eqb (get_or keys j 0) (get_or keys k 0))) k

-- what the tests on the slots ask: the header, of the right form, and the number of slots
pub record Whole (t : List ℕ) (h : Header) (n : ℕ) : Type 0 where
  pub long : record_at (width_of t) n ≤ length t
  pub header : h ≡ (decode_table t).header
  pub slots : n ≡ slots (decode_table t)
  pub few : n ≤ 64
  pub some : 1 ≤ h.settings.count
  pub most : h.settings.count ≤ 3
  pub low : high_sync h < 256

-- ---- what is loaded once and handed on

-- the header of octets that have one
pub record Headed (t : List ℕ) (h : Header) : Type 0 where
  pub long : 32 ≤ length t
  pub header : h ≡ (decode_table t).header

-- the table's width, and that the octets of the slots below n are there; those of slot k
pub record Reaches (t : List ℕ) (w n : ℕ) : Type 0 where
  pub told : w ≡ width_of t
  pub most : w ≤ width
  pub long : record_at w n ≤ length t

pub record Reached (t : List ℕ) (w k : ℕ) : Type 0 where
  pub told : w ≡ width_of t
  pub most : w ≤ width
  pub long : record_at w k + record_size w ≤ length t

-- the table's width and number of slots
pub record Sized (t : List ℕ) (w n : ℕ) : Type 0 where
  pub number : n ≡ slots (decode_table t)
  pub reaches : Reaches t w n

-- cause 2, or the header of a sound table
unfoldable pub checked : List ℕ → Result Header Refusal
checked t = if sound t then Ok (decode_table t).header else Err why.Unsound

-- causes 2 and 3, or a sound table's header and what the address comes to
abbrev pub entered : Header → Result (Option ℕ) Refusal → Result Entrance Refusal
entered h (Err c) = Err c
entered h (Ok f) = Ok (record { header = h; slot = f })

unfoldable pub entering : List ℕ → List ℕ → Result Entrance Refusal
entering t a = entered (decode_table t).header (entry t a)

-- the header of a sound table
pub record Looked (t : List ℕ) (h : Header) : Type 0 where
  pub whole : sound t ≡ true
  pub header : h ≡ (decode_table t).header

-- what was entered: a sound table's header, and what the address comes to
pub record Enters (e : Entrance) (t a : List ℕ) : Type 0 where
  pub entry : entry t a ≡ Ok e.slot
  pub looked : Looked t e.header
