-- What the code hands to a ladder and to an act, as the book sees it; and what it asks of that.
use Rattle.std.specs.Prelude.{◌≡◌, List, ℕ, ◌+◌, ◌*◌, ◌^◌, ◌≤◌, ◌<◌, length}
use Rattle.groups.specs.Groups.{width}
use Rattle.record.specs.declared.Peer.{Peer}
use Rattle.record.specs.Layout.{decode_peer, record_size}
use Rattle.rules.specs.declared.Clock.{Clock}
use Rattle.rules.specs.declared.Given.{Given}
use Rattle.rules.specs.declared.Act.{Act}
use Rattle.rules.specs.declared.Act.TheVariants.{ResendBoth, HearAgain}
use Rattle.rules.specs.Book.{Terms, Call}

abbrev pub terms : Given → List ℕ → Terms
terms g groups = record { own = g.own; groups = groups; crowded = g.crowded; full = g.full }

abbrev pub call : Given → List (List ℕ) → Call
call g fresh = record { address = g.address; clock = g.clock; fresh = fresh; expected = g.expected; verified = g.verified }

-- a clock whose longest delay, one doubling past the Sync limit, fits its 32 bits
pub record Paced (κ : Clock) : Type 0 where
  pub few : κ.limit ≤ 30
  pub fits : κ.period * 2 ^ (κ.limit + 1) < 2 ^ 32

-- a record's octets, its commits stored with W of them, and a run in it whose Sync and Sc are in their range
pub record Whole (κ : Clock) (W : ℕ) (s : List ℕ) : Type 0 where
  pub paced : Paced κ
  pub most : W ≤ width
  pub size : length s ≡ record_size W
  pub sync : (decode_peer W s).run.sync ≤ κ.limit + 1
  pub sc : (decode_peer W s).run.sc ≤ κ.limit + 2

-- what two acts ask of the record beside: their ladders have tested it
pub record Able (κ : Clock) (a : Act) (p : Peer) : Type 0 where
  pub resend : a ≡ ResendBoth → p.run.sync ≤ κ.limit
  pub hear : a ≡ HearAgain → p.link.sync ≤ κ.limit
