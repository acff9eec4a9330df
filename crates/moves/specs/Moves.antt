-- MOVES BETWEEN THE FORMS: "One call moves a table of 864-octet records to the 1,080 form, another moves it back; runs, deadlines and tokens go along." What
-- a move answers and leaves in its target, as a definition of all that is handed over. The source is only read.
use Rattle.std.specs.Prelude.{◌≡◌, Bool, true, not, ◌&&◌, List, ℕ, ◌+◌, ◌≤◌, eqb, ltb, length, if◌then◌else◌, Result, Ok, Err}
use Rattle.octets.specs.Octets.{Bytes}
use Rattle.groups.specs.Groups.{width, listed}
use Rattle.record.specs.declared.Form.{Form}
use Rattle.record.specs.declared.Header.{Header}
use Rattle.record.specs.Layout.{narrow, wide, form_of, groups_of, record_size, record_at}
use Rattle.table.specs.Table.{Table, decode_table, encode_table, sound, Reaches, Reached}
use Rattle.causes.specs.declared.Refusal.{Refusal}
use Rattle.causes.specs.declared.Refusal.TheVariants as why
use Rattle.answers.specs.Outcome.{Outcome}
use Rattle.answers.specs.Outcome as outcome
use Rattle.moves.specs.declared.Direction.{Direction}
use Rattle.moves.specs.declared.Direction.TheVariants.{Forward, Back}

-- ---- the two directions: the form that the source has, and the one that the target gets

abbrev pub source_form : Direction → Form
source_form Forward = narrow
source_form Back = wide

abbrev pub target_form : Direction → Form
target_form Forward = wide
target_form Back = narrow

-- "another moves it back"
abbrev pub opposite : Direction → Direction
opposite Forward = Back
opposite Back = Forward

-- ---- the same contents in another form

-- every field of the header but the record size
abbrev pub sized : Header → ℕ → Header
sized h n =
    record { geometry = record { slots = h.geometry.slots; size = n; first = h.geometry.first }; counts = h.counts; spare = h.spare; own = h.own; settings = h.settings }

-- and every record, in its slot: "runs, deadlines and tokens go along", and so do links, marks, terms and counts
abbrev pub resized : ℕ → Table → Table
resized n T = record { header = sized T.header n; peers = T.peers }

-- the octets of the table in the form f
unfoldable pub moved : Form → List ℕ → List ℕ
moved f t = encode_table (resized f.size (decode_table t))

-- two sound tables of the same contents, whatever forms they have: the second says what the first does, but for its own record size
pub record SameContents (t u : List ℕ) : Type 0 where
  pub bytes₁ : Bytes t
  pub bytes₂ : Bytes u
  pub sound₁ : sound t ≡ true
  pub sound₂ : sound u ≡ true
  pub table : decode_table u ≡ resized (decode_table u).header.geometry.size (decode_table t)

-- ---- the causes, in order of test: "15, forward with more than 60 slots; 16, back with group 21 listed; both after 2, which a source of the other form also
-- gets, target unchanged. A target not of the new length is 1, tested last."

-- a sound table of the form f
unfoldable pub is_of : Form → List ℕ → Bool
is_of f t = sound t && eqb (decode_table t).header.geometry.size f.size

-- what only one of the two directions asks
abbrev pub hindered : Direction → Header → Bool
hindered Forward h = ltb 60 h.geometry.slots
hindered Back h = listed (groups_of h) 21

abbrev pub hindrance : Direction → Refusal
hindrance Forward = why.Slots
hindrance Back = why.Group

-- as many octets as the form f has for the slots
unfoldable pub fitting : Form → Header → List ℕ → Bool
fitting f h target = eqb (length target) (record_at f.width h.geometry.slots)

-- ---- what a move answers, and what it leaves in its target

pub record Moved : Type 0 where
  pub answer : Outcome
  pub target : List ℕ

-- a refusal leaves every octet
abbrev pub refuse_move : List ℕ → Refusal → Moved
refuse_move target c = record { answer = outcome.Refused c; target = target }

-- the target's old octets are not looked at
unfoldable pub moves : Direction → List ℕ → List ℕ → Moved
moves d source target =
    if not (is_of (source_form d) source) then refuse_move target why.Unsound
    else if hindered d (decode_table source).header then refuse_move target (hindrance d)
    else if not (fitting (target_form d) (decode_table source).header target) then refuse_move target why.Target
    else record { answer = outcome.Done; target = moved (target_form d) source }

-- what a result says of it
abbrev pub settled : Result (Unit {0}) Refusal → Outcome
settled (Ok u) = outcome.Done
settled (Err c) = outcome.Refused c

-- a contract: the answer and the target at exit are those
pub record Moves (r : Result (Unit {0}) Refusal) (u : List ℕ) (m : Moved) : Type 0 where
  pub answer : settled r ≡ m.answer
  pub target : u ≡ m.target

-- ---- what the copying asks

-- the octets of a slot in the source, and room for them in the target, with the width w there and v here
pub record Beside (s t : List ℕ) (w v k : ℕ) : Type 0 where
  pub source : Reached s w k
  pub most : v ≤ width
  pub room : record_at v k + record_size v ≤ length t

-- the n slots of the source, and room for them in the target
pub record BesideAll (s t : List ℕ) (w v n : ℕ) : Type 0 where
  pub source : Reaches s w n
  pub whole : length s ≡ record_at w n
  pub most : v ≤ width
  pub room : record_at v n ≤ length t

-- a sound table, its header, a form that is served, and a target as long as that form has it for the slots
pub record Carried (f : Form) (s : List ℕ) (h : Header) (target : List ℕ) : Type 0 where
  pub sound : sound s ≡ true
  pub header : h ≡ (decode_table s).header
  pub told : form_of f.size ≡ f
  pub most : f.width ≤ width
  pub long : length target ≡ record_at f.width h.geometry.slots
  pub head : 32 ≤ length target
