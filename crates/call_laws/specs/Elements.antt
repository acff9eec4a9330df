-- Request a: "A frame call does just what it would do with the first 40 octets alone", table and answer, whatever else it is handed.
use Rattle.std.specs.Prelude.{◌≡◌, List, ℕ, take}
use Rattle.calls.specs.Calls.{receives}

pub record FirstAlone (frame : List ℕ) : Type 0 where
  pub alone : (t address : List ℕ) (time : ℕ) (fresh expected : List ℕ) (verdict : ℕ)
      → receives t address time frame fresh expected verdict ≡ receives t address time (take 40 frame) fresh expected verdict
