-- THE CALLS: what each answers and the table that it leaves, as a definition of all that is handed over. Refusals stand in the order of their test; what
-- is not refused is a step of the rule book, finished.
use Rattle.std.specs.Prelude.{Bool, false, not, ◌&&◌, List, [], ℕ, eqb, leb, ltb, length, replicate, if◌then◌else◌, Option, Some, None, Result, Ok, Err, is_none}
use Rattle.octets.specs.Scan.{first_below}
use Rattle.groups.specs.Groups.{fresh_of, fresh_ok}
use Rattle.record.specs.declared.Form.{Form}
use Rattle.record.specs.declared.Header.{Header}
use Rattle.record.specs.declared.Settings.{Settings}
use Rattle.record.specs.Layout.{width_in, groups_of, no_peer, period_of, limit_of}
use Rattle.record.specs.SettingsOctets.{settings_of, reserved_zero}
use Rattle.table.specs.Table.{Table, decode_table, slots, slot, free_slot, look_by, sound, entry}
use Rattle.initial.specs.Initial.{slots_for, initial_ok, initial_table}
use Rattle.rules.specs.declared.Event.TheVariants as event
use Rattle.rules.specs.declared.Frames.TheVariants as frames
use Rattle.rules.specs.declared.Clock.{Clock}
use Rattle.rules.specs.Book.{◌is◌, has_run, Terms, Call, Step, expired, on_start, on_frame, on_clock}
use Rattle.message.specs.View.{view, message}
use Rattle.causes.specs.declared.Refusal.TheVariants as why
use Rattle.answers.specs.Answers.{Left, refuse, quiet, none_due, ends, finishes, turned}
use Rattle.causes.specs.declared.Refusal.{Refusal}

-- ---- what the table says to a peer's rules, and what a call brings

-- "Open at or above the threshold"
unfoldable pub crowded : Header → Bool
crowded h = leb h.settings.threshold h.counts.opened

-- no slot is free
unfoldable pub full : Table → Bool
full T = is_none (free_slot T)

-- f is where the peer's record is, or that it has none
abbrev pub terms_of : Table → Option ℕ → Terms
terms_of T f =
    record { own = T.header.own; groups = groups_of T.header; crowded = crowded T.header; full = is_none f && full T }

-- the clock's reading, with the table's first period and Sync limit
abbrev pub clock_of : Header → ℕ → Clock
clock_of h time = record { time = time; period = period_of h.settings.period; limit = limit_of h.settings.limit }

abbrev pub brings : List ℕ → Clock → List (List ℕ) → List ℕ → Bool → Call
brings address clock fresh expected verified = record { address = address; clock = clock; fresh = fresh; expected = expected; verified = verified }

-- the stock as commits, each stored with the table's width: rules see no width
abbrev pub fresh_in : Header → List ℕ → List (List ℕ)
fresh_in h fresh = fresh_of (width_in h) fresh

-- a start and the clock bring no token
abbrev pub no_token : List ℕ
no_token = replicate 32 0

-- ---- Set up (also clears): "settings, own address or length wrong at set up" 1

-- of a form f: this engine makes the one that is `made`
unfoldable pub initializes : Form → List ℕ → List ℕ → Settings → Left
initializes f t own s =
    if initial_ok f s own (length t) then ends (quiet own) (initial_table f s own (slots_for f (length t)))
    else refuse t why.Settings

-- the same from the settings' 16 octets, as C hands them over: a reserved octet that is not 0 is 1 too
unfoldable pub initializes_from : Form → List ℕ → List ℕ → List ℕ → Left
initializes_from f t own s = if reserved_zero s then initializes f t own (settings_of s) else refuse t why.Settings

-- ---- Start: causes 2, 3, 4, 8, 9

unfoldable pub admit_start : Table → Option ℕ → List ℕ → Result (Option ℕ) Refusal
admit_start T f fresh =
    if not (fresh_ok (width_in T.header) (groups_of T.header) fresh) then Err why.Fresh
    else if has_run (look_by T f) then Err why.Running
    else Ok f

unfoldable pub start_turn : Result (Option ℕ) Refusal → List ℕ → List ℕ → Result (Option ℕ) Refusal
start_turn (Err c) t fresh = Err c
start_turn (Ok f) t fresh = admit_start (decode_table t) f fresh

unfoldable pub start_step : Table → Option ℕ → List ℕ → ℕ → List ℕ → Step
start_step T f address time fresh = on_start (terms_of T f) (brings address (clock_of T.header time) (fresh_in T.header fresh) no_token false) (look_by T f)

unfoldable pub initiates : List ℕ → List ℕ → ℕ → List ℕ → Left
initiates t address time fresh = turned (start_turn (entry t address) t fresh) (λ f. start_step (decode_table t) f address time fresh) t address

-- ---- Kill (frees the record): causes 2, 3, 10

unfoldable pub kill_turn : Result (Option ℕ) Refusal → Result (Option ℕ) Refusal
kill_turn (Err c) = Err c
kill_turn (Ok None) = Err why.NoRecord
kill_turn (Ok (Some k)) = Ok (Some k)

-- "Set up and kill answer event 0, no frames, group 0 and the address given."
unfoldable pub kill_step : Step
kill_step = record { peer = no_peer; event = event.None; frames = frames.None; afresh = 0; refused = false }

unfoldable pub kills : List ℕ → List ℕ → Left
kills t address = turned (kill_turn (entry t address)) (λ f. kill_step) t address

-- ---- Frame received: causes 2, 3, 4, 5, 6, 7, 9

unfoldable pub admit_frame : Table → Option ℕ → List ℕ → List ℕ → List ℕ → ℕ → Result (Option ℕ) Refusal
admit_frame T f frame fresh expected verdict =
    if not (fresh_ok (width_in T.header) (groups_of T.header) fresh) then Err why.Fresh
    else if not (eqb (length expected) 32) then Err why.Token
    else if ltb 1 verdict then Err why.Verdict
    else if (view (groups_of T.header) frame).sequence is 0 then Err why.Body
    else Ok f

unfoldable pub frame_turn : Result (Option ℕ) Refusal → List ℕ → List ℕ → List ℕ → List ℕ → ℕ → Result (Option ℕ) Refusal
frame_turn (Err c) t frame fresh expected verdict = Err c
frame_turn (Ok f) t frame fresh expected verdict = admit_frame (decode_table t) f frame fresh expected verdict

-- "one verdict, 0 or 1"
unfoldable pub frame_step : Table → Option ℕ → List ℕ → ℕ → List ℕ → List ℕ → List ℕ → ℕ → Step
frame_step T f address time frame fresh expected verdict =
    on_frame (terms_of T f) (brings address (clock_of T.header time) (fresh_in T.header fresh) expected (verdict is 1)) (look_by T f) (message (groups_of T.header) frame)

unfoldable pub receives : List ℕ → List ℕ → ℕ → List ℕ → List ℕ → List ℕ → ℕ → Left
receives t address time frame fresh expected verdict =
    turned (frame_turn (entry t address) t frame fresh expected verdict)
    (λ f. frame_step (decode_table t) f address time frame fresh expected verdict) t address

-- ---- Clock: cause 2

-- "The clock call serves the due record with the lowest slot number"
unfoldable pub due_slot : Table → ℕ → Option ℕ
due_slot T time = first_below (λ k. expired (slot T k) time) (slots T)

unfoldable pub clock_step : Table → ℕ → ℕ → Step
clock_step T k time = on_clock (terms_of T (Some k)) (brings (slot T k).address (clock_of T.header time) [] no_token false) (slot T k)

-- "t0 before t1, or says none is due, the rest of its answer zero"
unfoldable pub expires_by : Option ℕ → List ℕ → ℕ → Left
expires_by None t time = ends none_due (decode_table t)
expires_by (Some k) t time = finishes t (Some k) (clock_step (decode_table t) k time) (slot (decode_table t) k).address

unfoldable pub expires : List ℕ → ℕ → Left
expires t time = if sound t then expires_by (due_slot (decode_table t) time) t time else refuse t why.Unsound
