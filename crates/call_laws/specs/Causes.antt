-- Each call's causes of refusal, "in order of test".
use Rattle.std.specs.Prelude.{Bool, true, false, not, ◌&&◌, ◌||◌, List, [], ◌∷◌, ℕ, eqb, ltb, length, if◌then◌else◌, is_none}
use Rattle.causes.specs.Causes.{number}
use Rattle.groups.specs.Groups.{fresh_ok}
use Rattle.frame.specs.Writing.{Drawn, Octets, Outside}
use Rattle.record.specs.declared.Form.{Form}
use Rattle.record.specs.declared.Settings.{Settings}
use Rattle.record.specs.Layout.{width_in, groups_of}
use Rattle.soundness.specs.Soundness.{usable}
use Rattle.table.specs.Table.{Table, decode_table, finds, look, sound}
use Rattle.initial.specs.Initial.{initial_ok}
use Rattle.rules.specs.declared.Act.{Act}
use Rattle.rules.specs.Book.{◌is◌, has_run, frame_act}
use Rattle.rule_laws.specs.Slots.{is_no_slot}
use Rattle.message.specs.View.{view, message}
use Rattle.causes.specs.declared.Refusal.{Refusal}
use Rattle.causes.specs.declared.Refusal.TheVariants as why
use Rattle.moves.specs.declared.Direction.{Direction}
use Rattle.moves.specs.Moves.{source_form, target_form, is_of, hindered, hindrance, fitting}
use Rattle.calls.specs.Calls.{terms_of, clock_of, fresh_in, brings, full}

-- a cause, and whether it holds
pub record Cause : Type 0 where
  pub why : Refusal
  pub holds : Bool

abbrev pub cause : Refusal → Bool → Cause
cause c b = record { why = c; holds = b }

-- the first cause that holds, as r says it; o where none does
unfoldable pub first_cause : {A : Type 0} → (Refusal → A) → List Cause → A → A
first_cause r [] o = o
first_cause r (c ∷ cs) o = if c.holds then r c.why else first_cause r cs o

unfoldable pub no_cause : List Cause → Bool
no_cause [] = true
no_cause (c ∷ cs) = not c.holds && no_cause cs

-- the numbers rise, from above n
unfoldable pub rising : ℕ → List Cause → Bool
rising n [] = true
rising n (c ∷ cs) = ltb n (number c.why) && rising (number c.why) cs

-- the number n is none of theirs
unfoldable pub unlike : ℕ → List Cause → Bool
unlike n [] = true
unlike n (c ∷ cs) = not (eqb n (number c.why)) && unlike n cs

-- no number is 0, and none comes twice: it tells the cause
unfoldable pub distinct : List Cause → Bool
distinct [] = true
distinct (c ∷ cs) = not (eqb (number c.why) 0) && (unlike (number c.why) cs && distinct cs)

-- ---- what the causes ask of a table

-- the address has no record
unfoldable pub absent : Table → List ℕ → Bool
absent T a = is_none (finds T a)

-- ---- the causes of each call

unfoldable pub set_up_causes : Form → List ℕ → List ℕ → Settings → List Cause
set_up_causes f t own s = cause why.Settings (not (initial_ok f s own (length t))) ∷ []

unfoldable pub start_causes : List ℕ → List ℕ → List ℕ → List Cause
start_causes t a fresh =
    cause why.Unsound (not (sound t))
    ∷ cause why.Address (not (usable (decode_table t).header.own a))
    ∷ cause why.Fresh (not (fresh_ok (width_in (decode_table t).header) (groups_of (decode_table t).header) fresh))
    ∷ cause why.Running (has_run (look (decode_table t) a))
    ∷ cause why.Full (absent (decode_table t) a && full (decode_table t))
    ∷ []

unfoldable pub kill_causes : List ℕ → List ℕ → List Cause
kill_causes t a =
    cause why.Unsound (not (sound t))
    ∷ cause why.Address (not (usable (decode_table t).header.own a))
    ∷ cause why.NoRecord (absent (decode_table t) a)
    ∷ []

-- the act that the ladders name for a frame: "New record needed, no free slot" is that it is NoSlot
unfoldable pub frame_names : List ℕ → List ℕ → ℕ → List ℕ → List ℕ → List ℕ → ℕ → Act
frame_names t a time frame fresh expected verdict =
    frame_act (terms_of (decode_table t) (finds (decode_table t) a)) (brings a (clock_of (decode_table t).header time) (fresh_in (decode_table t).header fresh) expected (verdict is 1))
    (look (decode_table t) a) (message (groups_of (decode_table t).header) frame)

unfoldable pub frame_causes : List ℕ → List ℕ → ℕ → List ℕ → List ℕ → List ℕ → ℕ → List Cause
frame_causes t a time frame fresh expected verdict =
    cause why.Unsound (not (sound t))
    ∷ cause why.Address (not (usable (decode_table t).header.own a))
    ∷ cause why.Fresh (not (fresh_ok (width_in (decode_table t).header) (groups_of (decode_table t).header) fresh))
    ∷ cause why.Token (not (eqb (length expected) 32))
    ∷ cause why.Verdict (ltb 1 verdict)
    ∷ cause why.Body ((view (groups_of (decode_table t).header) frame).sequence is 0)
    ∷ cause why.Full (is_no_slot (frame_names t a time frame fresh expected verdict))
    ∷ []

unfoldable pub clock_causes : List ℕ → List Cause
clock_causes t = cause why.Unsound (not (sound t)) ∷ []

-- the next deadline has the clock's; where a record lies:
unfoldable pub find_causes : List ℕ → List ℕ → List Cause
find_causes t a =
    cause why.Unsound (not (sound t))
    ∷ cause why.Address (not (usable (decode_table t).header.own a))
    ∷ []

-- outside the shapes; longer than the buffer
abbrev pub outside : Drawn → Bool
outside Outside = true
outside (Octets s) = false

abbrev pub longer : Drawn → List ℕ → Bool
longer Outside out = false
longer (Octets s) out = ltb (length out) (length s)

unfoldable pub parts_causes : List ℕ → Drawn → List ℕ → List Cause
parts_causes t d out =
    cause why.Unsound (not (sound t))
    ∷ cause why.Body (outside d)
    ∷ cause why.Short (longer d out)
    ∷ []

unfoldable pub record_causes : List ℕ → List ℕ → Drawn → List ℕ → List Cause
record_causes t a d out =
    cause why.Unsound (not (sound t))
    ∷ cause why.Address (not (usable (decode_table t).header.own a))
    ∷ cause why.Body (absent (decode_table t) a || outside d)
    ∷ cause why.Short (longer d out)
    ∷ []

-- a move, in either direction: "15, forward with more than 60 slots; 16, back with group 21 listed; both after 2, which a source of the other form also gets. A
-- target not of the new length is 1, tested last."
unfoldable pub move_causes : Direction → List ℕ → List ℕ → List Cause
move_causes d source target =
    cause why.Unsound (not (is_of (source_form d) source))
    ∷ cause (hindrance d) (hindered d (decode_table source).header)
    ∷ cause why.Target (not (fitting (target_form d) (decode_table source).header target))
    ∷ []
