-- How many good links: the table with the true count filled in, and which 32 octets a sound table can start with.
use Rattle.std.specs.Prelude.{◌≡◌, Bool, true, ◌&&◌, List, ℕ, eqb, leb, length, take, if◌then◌else◌}
use Rattle.octets.specs.Octets.{Bytes, oct, put}
use Rattle.record.specs.declared.Counts.{Counts}
use Rattle.record.specs.declared.Header.{Header}
use Rattle.record.specs.Layout.{decode_header, record_at}
use Rattle.soundness.specs.Soundness.{header_ok}
use Rattle.table.specs.Table.{width_of, decode_table, slots, good_count, sound}

-- ---- "A call fills the field, right or wrong before, in a table otherwise sound; any other gets 2."

-- the octets with the true count in 12–13
unfoldable pub filled : List ℕ → List ℕ
filled t = put t 12 (oct 2 (good_count (decode_table t)))

-- what is left: those, if they are a sound table, else the octets that were handed over
unfoldable pub fills : List ℕ → List ℕ
fills t = if sound (filled t) then filled t else t

-- where the records can be counted: as many octets as the header tells, of at most 64 slots
unfoldable pub countable : List ℕ → Bool
countable t = leb 32 (length t) && (leb (slots (decode_table t)) 64 && eqb (length t) (record_at (width_of t) (slots (decode_table t))))

-- ---- "it refuses 2 exactly when it is not given 32 octets or no sound table starts with them"

-- octets with which a sound table starts
pub record Starts (s : List ℕ) : Type 0 where
  pub table : List ℕ
  pub bytes : Bytes table
  pub sound : sound table ≡ true
  pub starts : take 32 table ≡ s

-- the same as a test, without the table (`starts-possible`, `possible-starts`): no field is wrong by itself, and the counts are such as the records of so
-- many slots can have, Open, slots in use and good links
unfoldable pub counts_possible : ℕ → Counts → Bool
counts_possible slots n =
    leb n.opened n.used
    && (leb n.used slots
    && leb n.good n.used)

unfoldable pub header_possible : Header → Bool
header_possible h = header_ok h && counts_possible h.geometry.slots h.counts

unfoldable pub possible : List ℕ → Bool
possible s = eqb (length s) 32 && header_possible (decode_header s)
