-- The numbers of the causes.
use Rattle.std.specs.Prelude.{Bool, true, false, ℕ, Result, Ok, Err}
use Rattle.causes.specs.declared.Refusal.{Refusal}
use Rattle.causes.specs.declared.Refusal.TheVariants as why

-- "Causes and numbers, in order of test"
abbrev pub number : Refusal → ℕ
number why.Settings = 1
number why.Unsound = 2
number why.Address = 3
number why.Fresh = 4
number why.Token = 5
number why.Verdict = 6
number why.Body = 7
number why.Running = 8
number why.Full = 9
number why.NoRecord = 10
number why.Short = 11
-- "New numbers: 15, forward with more than 60 slots; 16, back with group 21 listed. A target not of the new length is 1"
number why.Slots = 15
number why.Group = 16
number why.Target = 1

-- a test that a call asks for: it goes on where the test holds, and else the cause is answered
abbrev pub passes : Bool → Refusal → Result (Unit {0}) Refusal
passes true c = Ok tt
passes false c = Err c
