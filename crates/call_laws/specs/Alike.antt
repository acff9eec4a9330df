-- What reaches a peer's record and answers: its own record, the settings, "Open against the threshold, free slots".
use Rattle.std.specs.Prelude.{◌≡◌, true, List, ℕ}
use Rattle.record.specs.Layout.{groups_of, width_in, period_of, limit_of}
use Rattle.table.specs.Table.{decode_table, look, sound, counts_of}
use Rattle.calls.specs.Calls.{crowded, full}

-- a sound table, whose counts are true
pub record SoundTable (t : List ℕ) : Type 0 where
  pub sound : sound t ≡ true
  pub counts : (decode_table t).header.counts ≡ counts_of (decode_table t)

-- two sound tables that are the same for the address a: own address, groups, width of a stored commit (the same stock serves both), the first period and
-- the Sync limit that their entries stand for, and its record; where neither has a record for it, both records are the free one.
pub record SameFor (t u a : List ℕ) : Type 0 where
  pub sound₁ : sound t ≡ true
  pub sound₂ : sound u ≡ true
  pub own : (decode_table t).header.own ≡ (decode_table u).header.own
  pub groups : groups_of (decode_table t).header ≡ groups_of (decode_table u).header
  pub width : width_in (decode_table t).header ≡ width_in (decode_table u).header
  pub period : period_of (decode_table t).header.settings.period ≡ period_of (decode_table u).header.settings.period
  pub limit : limit_of (decode_table t).header.settings.limit ≡ limit_of (decode_table u).header.settings.limit
  pub peer : look (decode_table t) a ≡ look (decode_table u) a

-- and alike in what others' calls may change of it: "Open against the threshold, free slots"
pub record Alike (t u a : List ℕ) : Type 0 where
  pub same : SameFor t u a
  pub crowded : crowded (decode_table t).header ≡ crowded (decode_table u).header
  pub full : full (decode_table t) ≡ full (decode_table u)
