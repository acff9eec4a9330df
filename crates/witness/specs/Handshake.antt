-- Two lists of calls, by octets: a handshake from two set ups to two links, and one more that only one end has finished.
-- Both tables are of the form of 1,080 octets, as set up makes them, list group 21 alone, and have the factory's first period and Sync limit.
use Rattle.std.specs.Prelude.{List, [], ◌∷◌, ℕ}
use Rattle.protocol.specs.Model.{Side, A, B}
use Rattle.frame.specs.Frame.{commit_body, confirm_body}
use Rattle.agreement.specs.Calls.{Entry}
use Rattle.witness.specs.Printers.{Printer, commit, filled, value, set_up, starts, gets}

abbrev pub wide : Side → Printer
wide X = record { side = X; size = 1080; groups = 21 ∷ []; period = 40; limit = 5 }

abbrev pub stock : ℕ → List ℕ
stock n = filled 198 21 n

-- the calls
abbrev pub start : Side → ℕ → Entry
start X n = starts X (stock n)

-- X gets the other's Commit with the commit m; n is its stock, v the octet of the value that its chip gives
abbrev pub gets_commit : Side → ℕ → ℕ → ℕ → Entry
gets_commit X m n v = gets X (commit_body 21 [] (commit 21 m)) (stock n) v

abbrev pub gets_confirm : Side → ℕ → Entry
gets_confirm X v = gets X (confirm_body 1 (value v)) (stock 0) 0

-- A starts, B answers with Commit and Confirm, A with its Confirm, and both accept
abbrev pub ready : List Entry
ready = set_up (wide B) ∷ set_up (wide A) ∷ []

abbrev pub started : List Entry
started = start A 1 ∷ ready

abbrev pub answered : List Entry
answered = gets_commit B 1 2 4 ∷ started

abbrev pub confirmed : List Entry
confirmed = gets_commit A 2 3 5 ∷ answered

abbrev pub accepted : List Entry
accepted = gets_confirm A 4 ∷ confirmed

abbrev pub handshake : List Entry
handshake = gets_confirm B 5 ∷ accepted

-- once more, and A alone has accepted
abbrev pub started_again : List Entry
started_again = start A 6 ∷ handshake

abbrev pub answered_again : List Entry
answered_again = gets_commit B 6 7 8 ∷ started_again

abbrev pub confirmed_again : List Entry
confirmed_again = gets_commit A 7 3 9 ∷ answered_again

abbrev pub again : List Entry
again = gets_confirm A 8 ∷ confirmed_again
