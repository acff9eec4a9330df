-- A list of calls, by octets, of printers of unlike forms that are set differently, one of them without group 21. A's table is of the form of 1,080 octets,
-- lists 21, then 19, and is set for a long hall: first period 250, Sync limit 10. B's is of the form of 864, made before, and lists 19 alone; its entries of 0
-- stand for the factory's 40 and 5. They come to two links in group 19.
use Rattle.std.specs.Prelude.{List, [], ◌∷◌, ◌++◌, ℕ}
use Rattle.protocol.specs.Model.{A, B}
use Rattle.frame.specs.Frame.{commit_body, group_refusal_body, confirm_body}
use Rattle.agreement.specs.Calls.{Entry}
use Rattle.witness.specs.Printers.{Printer, commit, filled, value, set_up, starts, gets}

abbrev pub newer : Printer
newer = record { side = A; size = 1080; groups = 21 ∷ 19 ∷ []; period = 250; limit = 10 }

abbrev pub older : Printer
older = record { side = B; size = 864; groups = 19 ∷ []; period = 0; limit = 0 }

-- A's stock, a part for each of its groups in list order, and B's
abbrev pub newer_stock : ℕ → ℕ → List ℕ
newer_stock n m = filled 198 21 n ++ filled 198 19 m

abbrev pub older_stock : ℕ → List ℕ
older_stock n = filled 144 19 n

-- ---- the calls

-- A starts, in 21, its first group
abbrev pub offer : Entry
offer = starts A (newer_stock 1 2)

-- B gets the Commit: it has no such group
abbrev pub refusal : Entry
refusal = gets B (commit_body 21 [] (commit 21 1)) (older_stock 3) 0

-- A gets B's 77, and goes on in 19
abbrev pub switch : Entry
switch = gets A (group_refusal_body 21) (newer_stock 4 5) 0

-- B gets A's Commit in 19, and A gets B's
abbrev pub answer : Entry
answer = gets B (commit_body 19 [] (commit 19 5)) (older_stock 6) 8

abbrev pub confirm : Entry
confirm = gets A (commit_body 19 [] (commit 19 6)) (newer_stock 7 7) 9

-- each gets the other's Confirm
abbrev pub newer_accepts : Entry
newer_accepts = gets A (confirm_body 1 (value 8)) (newer_stock 0 0) 0

abbrev pub older_accepts : Entry
older_accepts = gets B (confirm_body 1 (value 9)) (older_stock 0) 0

-- ---- the list, call by call

abbrev pub ready : List Entry
ready = set_up older ∷ set_up newer ∷ []

abbrev pub offered : List Entry
offered = offer ∷ ready

abbrev pub refused : List Entry
refused = refusal ∷ offered

abbrev pub switched : List Entry
switched = switch ∷ refused

abbrev pub answered : List Entry
answered = answer ∷ switched

abbrev pub confirmed : List Entry
confirmed = confirm ∷ answered

abbrev pub accepted : List Entry
accepted = newer_accepts ∷ confirmed

abbrev pub fallback : List Entry
fallback = older_accepts ∷ accepted
