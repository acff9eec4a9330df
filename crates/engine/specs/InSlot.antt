-- What the code hands from one function to the next: what was loaded and tested once, and what a step does in a slot of the table.
use Rattle.std.specs.Prelude.{◌≡◌, Bool, true, false, List, ℕ, ◌≤◌, length, if◌then◌else◌, Option, Some, None, Ok, Err, Result}
use Rattle.groups.specs.declared.stocked.Stock.{Stock}
use Rattle.groups.specs.Groups.{fresh_ok}
use Rattle.record.specs.declared.Header.{Header}
use Rattle.record.specs.Layout.{width_in, groups_of, period_of, limit_of}
use Rattle.soundness.specs.Soundness.{header_ok}
use Rattle.table.specs.Table.{Table, decode_table, with_peer}
use Rattle.rules.specs.declared.Clock.{Clock}
use Rattle.rules.specs.declared.Given.{Given}
use Rattle.rules.specs.declared.Said.{Said}
use Rattle.rules.specs.Book.{Step}
use Rattle.rules.specs.Said.{saying}
use Rattle.message.specs.declared.View.{View}
use Rattle.message.specs.View.{view}
use Rattle.causes.specs.declared.Refusal.{Refusal}
use Rattle.causes.specs.declared.Refusal.TheVariants as why
use Rattle.answers.specs.Answers.{Report, Seated, refused, said}
use Rattle.calls.specs.Calls.{crowded, clock_of, admit_frame}

-- ---- what was loaded and tested once

-- a sound table, its header, and where the record is that a call is about
pub record Held (t : List ℕ) (h : Header) (f : Option ℕ) : Type 0 where
  pub seated : Seated t f
  pub header : h ≡ (decode_table t).header

-- the header of a sound table, and a fresh commit for each of its groups
pub record Stocks (h : Header) (fresh : List ℕ) : Type 0 where
  pub header : header_ok h ≡ true
  pub places : length h.settings.groups ≡ 3
  pub each : fresh_ok (width_in h) (groups_of h) fresh ≡ true

-- a stock for the header's groups, its commits stored with the width of the header's table
pub record Lists (s : Stock) (h : Header) : Type 0 where
  pub groups : s.groups.now ≡ groups_of h
  pub width : s.width ≡ width_in h

-- what the header and a call give a rule, the peer having a slot, or not
abbrev pub given_by : Header → List ℕ → ℕ → List ℕ → Bool → Given
given_by h address time expected verified =
    record { own = h.own; crowded = crowded h; full = false; address = address; clock = clock_of h time; expected = expected; verified = verified }

abbrev pub slotless : Given → Given
slotless g =
    record {
      own = g.own;
      crowded = g.crowded;
      full = true;
      address = g.address;
      clock = g.clock;
      expected = g.expected;
      verified = g.verified;
    }

-- a clock goes by the header's first period and Sync limit
pub record Clocked (κ : Clock) (h : Header) : Type 0 where
  pub period : κ.period ≡ period_of h.settings.period
  pub limit : κ.limit ≡ limit_of h.settings.limit

-- g says what the header says
pub record Brought (g : Given) (h : Header) : Type 0 where
  pub clock : Clocked g.clock h
  pub own : g.own ≡ h.own
  pub crowded : g.crowded ≡ crowded h
  pub full : g.full ≡ false

-- a frame is refused or admitted as the definition has it, for every table with this header and wherever the record is; and the view of one that is admitted is
-- handed on
pub record AdmitsFrame (r : Result View Refusal) (h : Header) (frame fresh expected : List ℕ) (verdict : ℕ) : Type 0 where
  pub refuses : (c : Refusal) → r ≡ Err c → (T : Table) (f : Option ℕ) → h ≡ T.header → admit_frame T f frame fresh expected verdict ≡ Err c
  pub goes : (v : View) → r ≡ Ok v → (T : Table) (f : Option ℕ) → h ≡ T.header → admit_frame T f frame fresh expected verdict ≡ Ok f
  pub view : (v : View) → r ≡ Ok v → v ≡ view (groups_of h) frame
  pub short : (v : View) → r ≡ Ok v → v.toklen ≤ 256

-- ---- a step in a slot, and outside the table

-- the table left says the same but for the step's record in slot k, and the answer is what the step says
pub record DoesAt (x : Said) (left t : List ℕ) (k : ℕ) (s : Step) : Type 0 where
  pub leaves : decode_table left ≡ with_peer (decode_table t) k s.peer
  pub says : x ≡ saying s

-- what is answered where no slot is free
abbrev pub answers_outside : Step → List ℕ → Report
answers_outside s address = if s.refused then refused why.Full else said s address
