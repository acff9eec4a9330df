-- Two printers by octets: their addresses, how each is set up, its commits and its calls. Tables have one slot; a commit is one octet over and over.
use Rattle.std.specs.Prelude.{List, [], ◌∷◌, ◌++◌, ℕ, ◌+◌, ◌-◌, length, get_or, replicate}
use Rattle.protocol.specs.Model.{Side, A, B, other}
use Rattle.groups.specs.Groups.{commit_length}
use Rattle.agreement.specs.Calls.{initialize, initiate, receive, Entry}

-- the two own addresses
abbrev pub own : Side → List ℕ
own A = 2 ∷ 0 ∷ 0 ∷ 0 ∷ 0 ∷ 1 ∷ []
own B = 2 ∷ 0 ∷ 0 ∷ 0 ∷ 0 ∷ 2 ∷ []

-- a printer: the record size of its table's form, the groups that it lists, and the entries of its first period, here below 256, and Sync limit
pub record Printer : Type 0 where
  pub side : Side
  pub size : ℕ
  pub groups : List ℕ
  pub period : ℕ
  pub limit : ℕ

-- its settings, with threshold 5
abbrev pub settings : Printer → List ℕ
settings P =
    length P.groups ∷ 0 ∷ get_or P.groups 0 0 ∷ 0 ∷ get_or P.groups 1 0 ∷ 0 ∷ get_or P.groups 2 0 ∷ 0 ∷ 5 ∷ 0
    ∷ P.period ∷ 0 ∷ P.limit ∷ replicate 3 0

-- a group's commit as a frame has it, and filled with zeros up to W octets, as a stock of that width has it; a Confirm's value
abbrev pub commit : ℕ → ℕ → List ℕ
commit group n = replicate (commit_length group) n

abbrev pub filled : ℕ → ℕ → ℕ → List ℕ
filled W group n = commit group n ++ replicate (W - commit_length group) 0

abbrev pub value : ℕ → List ℕ
value n = replicate 32 n

-- the calls: with the other printer, at time 0, with verdict 1. v is the octet of the value that the chip gives
abbrev pub set_up : Printer → Entry
set_up P = record { side = P.side; call = initialize P.size (replicate (32 + P.size) 0) (own P.side) (settings P); value = value 0 }

abbrev pub starts : Side → List ℕ → Entry
starts X stock = record { side = X; call = initiate (own (other X)) 0 stock; value = value 0 }

abbrev pub gets : Side → List ℕ → List ℕ → ℕ → Entry
gets X frame stock v = record { side = X; call = receive (own (other X)) 0 frame stock (value 0) 1; value = value v }
