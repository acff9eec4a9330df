-- The edges marked as proved, and those that the requests bring, as one table: each case asks a question of the definitions of calls and rules and has the
-- numbers that answer it.
use Rattle.std.specs.Prelude.{Bool, true, ◌&&◌, List, [], ◌∷◌, ◌++◌, ℕ, zero, suc, ◌+◌, replicate, if◌then◌else◌, Option, Some, None, Result, Ok, Err}
use Rattle.causes.specs.Causes.{number}
use Rattle.octets.specs.Scan.{bit}
use Rattle.octets.specs.Octets.{oct, same}
use Rattle.groups.specs.Groups.{width}
use Rattle.frame.specs.Frame.{head}
use Rattle.record.specs.declared.Peer.{Peer}
use Rattle.record.specs.declared.Form.{Form}
use Rattle.record.specs.declared.Settings.{Settings}
use Rattle.record.specs.Layout.{form_of, groups_of, no_run, no_link, no_peer, period_of, limit_of}
use Rattle.record.specs.SettingsOctets.{settings_of}
use Rattle.soundness.specs.Soundness.{high_sync, run_ok, link_ok}
use Rattle.table.specs.Table.{Table, placed, slot, look_by}
use Rattle.initial.specs.Initial.{made, slots_for, length_ok, initial_ok, initial_header}
use Rattle.rules.specs.declared.Act.{Act}
use Rattle.rules.specs.declared.Act.TheVariants.{Drop, RefuseGroup, AskToken, NoSlot, AnswerCommit, ConfirmCommit, ReplyToken, SwitchGroup, RepeatCommit, RepeatRefusal, ResendBoth, ConfirmAgain, GiveUp, Accept, HearAgain, HearLast, EndLink, Begin}
use Rattle.rules.specs.declared.Frame.{Frame}
use Rattle.rules.specs.declared.Frames.{Frames}
use Rattle.rules.specs.declared.Frames.TheVariants as frames
use Rattle.rules.specs.Book.{◌is◌, Step, event_number, frame_act, clock_act}
use Rattle.message.specs.declared.View.{View}
use Rattle.message.specs.View.{view, message}
use Rattle.causes.specs.declared.Refusal.TheVariants as why
use Rattle.calls.specs.Calls.{terms_of, clock_of, brings, fresh_in, admit_frame, start_step, frame_step, due_slot, clock_step}
use Rattle.causes.specs.declared.Refusal.{Refusal}

-- ---- tables: eight slots, threshold 5; of the form of 864 octets with groups 19 and 20, unless said

-- the address of a peer, and our own
abbrev pub address : ℕ → List ℕ
address n = 2 ∷ 0 ∷ 0 ∷ 0 ∷ 0 ∷ n ∷ []

abbrev pub own : List ℕ
own = address 255

-- a first period and a Sync limit of 0, unless said
abbrev pub empty_with : ℕ → ℕ → List ℕ → ℕ → ℕ → Table
empty_with size count groups period limit =
    record {
      header = record {
        geometry = record { slots = 8; size = size; first = 32 };
        counts = record { used = 0; opened = 0; good = 0 };
        spare = 0;
        own = own;
        settings = record { count = count; groups = groups; threshold = 5; period = period; limit = limit };
      };
      peers = replicate 8 no_peer;
    }

abbrev pub empty : Table
empty = empty_with 864 2 (19 ∷ 20 ∷ 0 ∷ []) 0 0

-- of the form of 1,080 octets, with all three groups
abbrev pub wide_empty : Table
wide_empty = empty_with 1080 3 (21 ∷ 20 ∷ 19 ∷ []) 0 0

-- with a first period and a Sync limit
abbrev pub paced : ℕ → ℕ → Table
paced period limit = empty_with 864 2 (19 ∷ 20 ∷ 0 ∷ []) period limit

-- a run in group 19 in a state, Committed or Confirmed, with a Sync: Sc is Sync + 1 in Confirmed, else 0
abbrev pub sc_of : ℕ → ℕ → ℕ
sc_of state sync = if state is 2 then sync + 1 else 0

abbrev pub running : ℕ → ℕ → ℕ → Peer
running n state sync =
    record {
      used = 1;
      address = address n;
      run = record {
        state = state;
        sync = sync;
        rejected = 0;
        sc = sc_of state sync;
        group = 19;
        toklen = 0;
        t0 = 0;
        own = replicate width 0;
        peer = replicate width 0;
        token = replicate 256 0;
      };
      link = no_link;
    }

-- a finished link in group 19 with a Sync and Rc, and no run
abbrev pub linked : ℕ → ℕ → ℕ → Peer
linked n sync rc =
    record {
      used = 1;
      address = address n;
      run = no_run;
      link = record {
        finished = 1;
        superseded = 0;
        sync = sync;
        spare = 0;
        group = 19;
        rc = rc;
        t1 = 86400000;
        own = replicate width 0;
        peer = replicate width 0;
      };
    }

-- so many runs in Committed, each placed in a slot of its own; placing counts them
abbrev pub with_open : ℕ → Table
with_open zero = empty
with_open (suc n) = placed (with_open n) n (running n 1 0)

-- ---- what is handed over

-- settings with groups 19 and 20, threshold 5, a first period and a Sync limit, as C hands them over
abbrev pub settings_octets : ℕ → ℕ → List ℕ
settings_octets period limit = 2 ∷ 0 ∷ 19 ∷ 0 ∷ 20 ∷ 0 ∷ 0 ∷ 0 ∷ 5 ∷ 0 ∷ oct 2 period ++ (limit ∷ 0 ∷ 0 ∷ 0 ∷ [])

abbrev pub stock : List ℕ
stock = replicate 288 0

abbrev pub wide_stock : List ℕ
wide_stock = replicate 594 0

abbrev pub expected : List ℕ
expected = replicate 32 9

-- a status 0 Commit in a group with so many octets behind it, in group 19, and a status 0 Confirm
abbrev pub offer_octets : ℕ → ℕ → List ℕ
offer_octets group rest = head 1 0 group ++ replicate rest 7

abbrev pub commit_octets : ℕ → List ℕ
commit_octets rest = offer_octets 19 rest

abbrev pub confirm_octets : ℕ → ℕ → List ℕ
confirm_octets counter rest = head 2 0 counter ++ replicate rest 7

-- a vendor's element with so many octets of contents, and so many octets of elements: some of 255 octets of contents, then one
abbrev pub element : ℕ → List ℕ
element n = 221 ∷ n ∷ replicate n 7

abbrev pub elements : ℕ → ℕ → List ℕ
elements zero n = element n
elements (suc k) n = element 255 ++ elements k n

-- a status 0 Confirm of 40 octets with others behind it
abbrev pub confirm_with : List ℕ → List ℕ
confirm_with behind = confirm_octets 1 32 ++ behind

-- a 76 for a group with a token of 32 octets
abbrev pub request_octets : ℕ → List ℕ
request_octets group = head 1 76 group ++ replicate 32 5

-- ---- answers as numbers

abbrev pub frame_numbers : Frame → List ℕ
frame_numbers f = f.sequence ∷ f.status ∷ f.group ∷ f.counter ∷ []

abbrev pub frames_numbers : Frames → List ℕ
frames_numbers frames.None = []
frames_numbers (frames.One f) = frame_numbers f
frames_numbers (frames.Two f g) = frame_numbers f ++ frame_numbers g

-- sequence, status, group, counter, length of the token
abbrev pub view_numbers : View → List ℕ
view_numbers v = v.sequence ∷ v.status ∷ v.group ∷ v.counter ∷ v.toklen ∷ []

-- the refusal's number, or what was read
abbrev pub admitted : Result (Option ℕ) Refusal → View → List ℕ
admitted (Err c) v = number c ∷ []
admitted (Ok f) v = view_numbers v

abbrev pub slot_numbers : Option ℕ → List ℕ
slot_numbers None = []
slot_numbers (Some k) = k ∷ []

-- record size, the most slots, the most groups, and, if there are any, the width of a stored commit
abbrev pub form_numbers : Form → List ℕ
form_numbers f = f.size ∷ f.slots ∷ f.groups ∷ (if f.slots is 0 then [] else f.width ∷ [])

-- the slots that a set up of a form makes in a buffer of a length, or the refusal's number
abbrev pub set_up_numbers : Form → ℕ → List ℕ
set_up_numbers f length = if length_ok f length then 0 ∷ slots_for f length ∷ [] else number why.Settings ∷ []

-- the first period and the Sync limit that a set up of one slot stores, and what the entries stand for, or the refusal's number
abbrev pub stored_numbers : Settings → List ℕ
stored_numbers s = s.period ∷ s.limit ∷ period_of s.period ∷ limit_of s.limit ∷ []

abbrev pub set_with_numbers : Settings → List ℕ
set_with_numbers s = if initial_ok made s own 1112 then 0 ∷ stored_numbers (initial_header made s own 1).settings else number why.Settings ∷ []

-- 1 for each of a run in Committed, a run in Confirmed and a link that have their form, with a Sync, in a table of this highest one
abbrev pub formed_numbers : ℕ → ℕ → List ℕ
formed_numbers high sync =
    bit (run_ok (19 ∷ 20 ∷ []) high (running 1 1 sync).run) ∷ bit (run_ok (19 ∷ 20 ∷ []) high (running 1 2 sync).run)
    ∷ bit (link_ok (19 ∷ 20 ∷ []) high (linked 1 sync 1).link) ∷ []

-- the acts of the book, told apart
unfoldable pub named : Act → ℕ
named Drop = 0
named RefuseGroup = 1
named AskToken = 2
named NoSlot = 3
named AnswerCommit = 4
named ConfirmCommit = 5
named ReplyToken = 6
named SwitchGroup = 7
named RepeatCommit = 8
named RepeatRefusal = 9
named ResendBoth = 10
named ConfirmAgain = 11
named GiveUp = 12
named Accept = 13
named HearAgain = 14
named HearLast = 15
named EndLink = 16
named Begin = 17

-- ---- questions, one for each kind of edge

pub data Question : Type 0 where
  -- a frame call's test of these octets: 7, or the view of what was read
  Received : List ℕ → Question
  -- a frame call's test of a stock of so many octets: 4, or the view of the Commit read
  Stocked : ℕ → Question
  -- the same two of a table of the form of 1,080 octets with all three groups
  ReceivedWide : List ℕ → Question
  StockedWide : ℕ → Question
  -- the form that a record size tells
  Formed : ℕ → Question
  -- what a set up of the form that a record size tells makes in a buffer of a length
  SetUp : ℕ → ℕ → Question
  -- the t0 deadline of a start at a reading
  Deadline : ℕ → Question
  -- started at a reading, the slot that a clock call at another reading takes
  Due : ℕ → ℕ → Question
  -- started at a reading, and a Commit with verdict 0 heard at a second one: the act, and the slot that a clock call at a third takes
  DueAfter : ℕ → ℕ → ℕ → Question
  -- a run in a state with a Sync whose t0 is due: the act that the ladder names, event, Sync left, frames
  Expired : ℕ → ℕ → Question
  -- a link with a Sync and Rc gets a Confirm with a counter and a verdict: the act, Rc and Sync left, frames
  Confirmed : ℕ → ℕ → ℕ → ℕ → Question
  -- started at reading 0, so many 76s for the run's group heard, then one for a group: the act; event, run state, Sync, t0 and token length left; frames
  Requested : ℕ → ℕ → Question
  -- with so many Open, a Commit without a token from a new peer: the act, stock group used, frames
  Offered : ℕ → Question
  -- a frame from a new peer at a printer without group 21, and at one with it: the act, stock group used, frames
  Without21 : List ℕ → Question
  With21 : List ℕ → Question
  -- what a set up with a first period and a Sync limit stores, and what they stand for, or the refusal's number
  SetWith : ℕ → ℕ → Question
  -- with a first period and a Sync limit, a run in Committed with a Sync whose t0 is due at reading 0: the act, event, Sync and t0 left, frames
  ExpiredWith : ℕ → ℕ → ℕ → Question
  -- with a Sync limit, a link with a Sync and Rc 1 gets a Confirm with counter 2 and verdict 1: the act, Rc and Sync left, frames
  ConfirmedWith : ℕ → ℕ → Question
  -- with a Sync limit, which of a run in Committed, one in Confirmed and a link may have a Sync
  StoredWith : ℕ → ℕ → Question

-- a frame call's tests on an empty table
abbrev pub received : Table → List ℕ → List ℕ → List ℕ
received T s fresh = admitted (admit_frame T None s fresh expected 1) (view (groups_of T.header) s)

-- a start on the empty table
abbrev pub started : ℕ → Peer
started time = (start_step empty None (address 1) time stock).peer

-- the act that the ladder names for a frame, heard at a reading from an address whose record is at f
abbrev pub heard_with : List ℕ → Table → Option ℕ → List ℕ → ℕ → List ℕ → ℕ → Act
heard_with fresh T f a time frame verdict =
    frame_act (terms_of T f) (brings a (clock_of T.header time) (fresh_in T.header fresh) expected (verdict is 1)) (look_by T f)
    (message (groups_of T.header) frame)

abbrev pub heard : Table → Option ℕ → List ℕ → ℕ → List ℕ → ℕ → Act
heard = heard_with stock

abbrev pub say_expired : Act → Step → List ℕ
say_expired a s = named a ∷ event_number s.event ∷ s.peer.run.sync ∷ frames_numbers s.frames

abbrev pub say_paced : Act → Step → List ℕ
say_paced a s = named a ∷ event_number s.event ∷ s.peer.run.sync ∷ s.peer.run.t0 ∷ frames_numbers s.frames

abbrev pub say_requested : Act → Step → List ℕ
say_requested a s =
    named a ∷ event_number s.event ∷ s.peer.run.state ∷ s.peer.run.sync ∷ s.peer.run.t0 ∷ s.peer.run.toklen ∷ frames_numbers s.frames

abbrev pub say_confirmed : Act → Step → List ℕ
say_confirmed a s = named a ∷ s.peer.link.rc ∷ s.peer.link.sync ∷ frames_numbers s.frames

abbrev pub say_offered : Act → Step → List ℕ
say_offered a s = named a ∷ s.afresh ∷ frames_numbers s.frames

-- each asks the ladder for the act and the call for its step
abbrev pub answer_expired : Table → List ℕ
answer_expired T = say_expired (clock_act (slot T 7) 0) (clock_step T 7 0)

abbrev pub answer_paced : Table → List ℕ
answer_paced T = say_paced (clock_act (slot T 7) 0) (clock_step T 7 0)

abbrev pub answer_confirmed : Table → List ℕ → ℕ → List ℕ
answer_confirmed T frame verdict =
    say_confirmed (heard T (Some 7) (address 1) 0 frame verdict) (frame_step T (Some 7) (address 1) 0 frame stock expected verdict)

abbrev pub answer_due_after : Table → List ℕ → ℕ → ℕ → List ℕ
answer_due_after T frame time later =
    named (heard T (Some 7) (address 1) time frame 0)
    ∷ slot_numbers (due_slot (placed T 7 (frame_step T (Some 7) (address 1) time frame stock expected 0).peer) later)

-- the step of a 76 for a group that comes to a record at reading 0, and the record after a start and so many for its own group
abbrev pub request_step : Peer → ℕ → Step
request_step p group = frame_step (placed empty 7 p) (Some 7) (address 1) 0 (request_octets group) stock expected 0

abbrev pub requested : ℕ → Peer
requested zero = started 0
requested (suc n) = (request_step (requested n) 19).peer

abbrev pub answer_requested : Peer → ℕ → List ℕ
answer_requested p group = say_requested (heard (placed empty 7 p) (Some 7) (address 1) 0 (request_octets group) 0) (request_step p group)

abbrev pub answer_offered : List ℕ → Table → List ℕ → List ℕ
answer_offered fresh T frame =
    say_offered (heard_with fresh T None (address 100) 0 frame 1) (frame_step T None (address 100) 0 frame fresh expected 1)

unfoldable pub answer : Question → List ℕ
answer (Received s) = received empty s stock
answer (Stocked n) = received empty (commit_octets 96) (replicate n 0)
answer (ReceivedWide s) = received wide_empty s wide_stock
answer (StockedWide n) = received wide_empty (commit_octets 96) (replicate n 0)
answer (Formed size) = form_numbers (form_of size)
answer (SetUp size length) = set_up_numbers (form_of size) length
answer (Deadline time) = (started time).run.t0 ∷ []
answer (Due time later) = slot_numbers (due_slot (placed empty 7 (started time)) later)
answer (DueAfter time heard later) = answer_due_after (placed empty 7 (started time)) (commit_octets 96) heard later
answer (Expired state sync) = answer_expired (placed empty 7 (running 1 state sync))
answer (Confirmed sync rc counter verdict) = answer_confirmed (placed empty 7 (linked 1 sync rc)) (confirm_octets counter 32) verdict
answer (Requested n group) = answer_requested (requested n) group
answer (Offered n) = answer_offered stock (with_open n) (commit_octets 96)
answer (Without21 s) = answer_offered stock empty s
answer (With21 s) = answer_offered wide_stock wide_empty s
answer (SetWith period limit) = set_with_numbers (settings_of (settings_octets period limit))
answer (ExpiredWith period limit sync) = answer_paced (placed (paced period limit) 7 (running 1 1 sync))
answer (ConfirmedWith limit sync) = answer_confirmed (placed (paced 0 limit) 7 (linked 1 sync 1)) (confirm_octets 2 32) 1
answer (StoredWith limit sync) = formed_numbers (high_sync (paced 0 limit).header) sync

-- ---- the table of cases

pub record Case : Type 0 where
  pub question : Question
  pub answered : List ℕ

abbrev pub case : Question → List ℕ → Case
case q ns = record { question = q; answered = ns }

-- a case holds; every case of a table does
unfoldable pub holds : Case → Bool
holds c = same (answer c.question) c.answered

unfoldable pub all_hold : List Case → Bool
all_hold [] = true
all_hold (c ∷ cs) = holds c && all_hold cs

abbrev pub edges : List Case
edges =
    -- "Group 19 Commit: 104 octets read, 103 refused"
    case (Received (commit_octets 96)) (1 ∷ 0 ∷ 19 ∷ 0 ∷ 0 ∷ [])
    ∷ case (Received (commit_octets 95)) (7 ∷ [])
    -- "Confirm: 40 read, 41 refused"
    ∷ case (Received (confirm_octets 1 32)) (2 ∷ 0 ∷ 0 ∷ 1 ∷ 0 ∷ [])
    ∷ case (Received (confirm_octets 1 33)) (7 ∷ [])
    -- request a, "40 octets and any run of whole elements, 2,304 octets in all at most": no contents, 42 octets; one octet of contents there, and not there;
    -- an identifier alone behind a whole element; eight elements of 257 octets and one of 208, and of 209
    ∷ case (Received (confirm_with (element 0))) (2 ∷ 0 ∷ 0 ∷ 1 ∷ 0 ∷ [])
    ∷ case (Received (confirm_with (element 1))) (2 ∷ 0 ∷ 0 ∷ 1 ∷ 0 ∷ [])
    ∷ case (Received (confirm_with (221 ∷ 1 ∷ []))) (7 ∷ [])
    ∷ case (Received (confirm_with (element 1 ++ (221 ∷ [])))) (7 ∷ [])
    ∷ case (Received (confirm_with (elements 8 206))) (2 ∷ 0 ∷ 0 ∷ 1 ∷ 0 ∷ [])
    ∷ case (Received (confirm_with (elements 8 207))) (7 ∷ [])
    -- "144 octets for each group in list order", here two: one octet too few, one too many, and parts of the other width
    ∷ case (Stocked 287) (4 ∷ [])
    ∷ case (Stocked 288) (1 ∷ 0 ∷ 19 ∷ 0 ∷ 0 ∷ [])
    ∷ case (Stocked 289) (4 ∷ [])
    ∷ case (Stocked 396) (4 ∷ [])
    -- request g, "198 octets in each part of the stock", here three: the same
    ∷ case (StockedWide 593) (4 ∷ [])
    ∷ case (StockedWide 594) (1 ∷ 0 ∷ 19 ∷ 0 ∷ 0 ∷ [])
    ∷ case (StockedWide 595) (4 ∷ [])
    ∷ case (StockedWide 432) (4 ∷ [])
    -- "record size 864", and request g, "records of 1,080": 64 slots and 2 groups, 60 slots and 3 groups; one less and one more tell no form
    ∷ case (Formed 863) (0 ∷ 0 ∷ 0 ∷ [])
    ∷ case (Formed 864) (864 ∷ 64 ∷ 2 ∷ 144 ∷ [])
    ∷ case (Formed 865) (0 ∷ 0 ∷ 0 ∷ [])
    ∷ case (Formed 1079) (0 ∷ 0 ∷ 0 ∷ [])
    ∷ case (Formed 1080) (1080 ∷ 60 ∷ 3 ∷ 198 ∷ [])
    ∷ case (Formed 1081) (0 ∷ 0 ∷ 0 ∷ [])
    -- request g: 60 slots of 1,080 octets are set up, 61 are not, nor is an octet more or less; 4,352 octets are 5 slots of one form and 4 of the other
    ∷ case (SetUp 1080 64832) (0 ∷ 60 ∷ [])
    ∷ case (SetUp 1080 65912) (1 ∷ [])
    ∷ case (SetUp 1080 64831) (1 ∷ [])
    ∷ case (SetUp 1080 64833) (1 ∷ [])
    ∷ case (SetUp 864 4352) (0 ∷ 5 ∷ [])
    ∷ case (SetUp 1080 4352) (0 ∷ 4 ∷ [])
    -- request g, "scalar 66 octets, element 132": where 21 is listed, 206 to 462 octets are read
    ∷ case (ReceivedWide (offer_octets 21 197)) (7 ∷ [])
    ∷ case (ReceivedWide (offer_octets 21 198)) (1 ∷ 0 ∷ 21 ∷ 0 ∷ 0 ∷ [])
    ∷ case (ReceivedWide (offer_octets 21 454)) (1 ∷ 0 ∷ 21 ∷ 0 ∷ 256 ∷ [])
    ∷ case (ReceivedWide (offer_octets 21 455)) (7 ∷ [])
    ∷ case (With21 (offer_octets 21 198)) (named AnswerCommit ∷ 21 ∷ 1 ∷ 0 ∷ 21 ∷ 0 ∷ 2 ∷ 0 ∷ 0 ∷ 1 ∷ [])
    -- where it is not, any rest is, "as any unsupported group": 77
    ∷ case (Without21 (offer_octets 21 0)) (named RefuseGroup ∷ 0 ∷ 1 ∷ 77 ∷ 21 ∷ 0 ∷ [])
    ∷ case (Without21 (offer_octets 21 198)) (named RefuseGroup ∷ 0 ∷ 1 ∷ 77 ∷ 21 ∷ 0 ∷ [])
    ∷ case (Without21 (offer_octets 22 198)) (named RefuseGroup ∷ 0 ∷ 1 ∷ 77 ∷ 22 ∷ 0 ∷ [])
    -- "t0 set with Sync 0 at 4,294,967,290: deadline 34; not due at 33, due at 34"
    ∷ case (Deadline 4294967290) (34 ∷ [])
    ∷ case (Due 4294967290 33) []
    ∷ case (Due 4294967290 34) (7 ∷ [])
    -- "Sync 5 repeats, Sync 6 gives up": in Committed the Commit, in Confirmed a new Confirm
    ∷ case (Expired 1 5) (named RepeatCommit ∷ 0 ∷ 6 ∷ 1 ∷ 0 ∷ 19 ∷ 0 ∷ [])
    ∷ case (Expired 1 6) (named RepeatCommit ∷ 2 ∷ 0 ∷ [])
    ∷ case (Expired 2 5) (named ConfirmAgain ∷ 0 ∷ 6 ∷ 2 ∷ 0 ∷ 0 ∷ 7 ∷ [])
    ∷ case (Expired 2 6) (named ConfirmAgain ∷ 2 ∷ 0 ∷ [])
    -- "Link with Sync 0 and Rc 1: counter 1 dropped, counter 2 with verdict 1 answered"
    ∷ case (Confirmed 0 1 1 1) (named Drop ∷ 1 ∷ 0 ∷ [])
    ∷ case (Confirmed 0 1 2 1) (named HearAgain ∷ 2 ∷ 1 ∷ 2 ∷ 0 ∷ 0 ∷ 65535 ∷ [])
    -- "Open 4 of 5 needs no token, 5 does": Commit and Confirm, or a 76
    ∷ case (Offered 4) (named AnswerCommit ∷ 19 ∷ 1 ∷ 0 ∷ 19 ∷ 0 ∷ 2 ∷ 0 ∷ 0 ∷ 1 ∷ [])
    ∷ case (Offered 5) (named AskToken ∷ 0 ∷ 1 ∷ 76 ∷ 19 ∷ 0 ∷ [])
    -- request b: started at 0, a bad Commit at 30 is dropped, and t0 is due at 40 as it was
    ∷ case (DueAfter 0 30 39) (named Drop ∷ [])
    ∷ case (DueAfter 0 30 40) (named Drop ∷ 7 ∷ [])
    -- request b: counter 65,535 with verdict 1 is no drop; nothing is sent, and Rc becomes 65,535
    ∷ case (Confirmed 0 1 65535 1) (named HearLast ∷ 65535 ∷ 0 ∷ [])
    ∷ case (Confirmed 0 1 65535 0) (named Drop ∷ 1 ∷ 0 ∷ [])
    -- request j: an access point answers 76 to every Commit. Each is answered with the token, t0 by the raised Sync; the seventh ends the run
    ∷ case (Requested 0 19) (named ReplyToken ∷ 0 ∷ 1 ∷ 1 ∷ 80 ∷ 32 ∷ 1 ∷ 0 ∷ 19 ∷ 0 ∷ [])
    ∷ case (Requested 5 19) (named ReplyToken ∷ 0 ∷ 1 ∷ 6 ∷ 2560 ∷ 32 ∷ 1 ∷ 0 ∷ 19 ∷ 0 ∷ [])
    ∷ case (Requested 6 19) (named ReplyToken ∷ 2 ∷ 0 ∷ 0 ∷ 0 ∷ 0 ∷ [])
    -- request j: a 76 for another group stays a drop, above the limit too
    ∷ case (Requested 6 20) (named Drop ∷ 0 ∷ 1 ∷ 6 ∷ 2560 ∷ 32 ∷ [])
    -- request i, "first period 10 to 1,000 ms", "Sync limit 1 to 10": what is stored and what it stands for; "Zero means the factory's 40 and 5", stored as 0
    ∷ case (SetWith 0 0) (0 ∷ 0 ∷ 0 ∷ 40 ∷ 5 ∷ [])
    ∷ case (SetWith 40 5) (0 ∷ 40 ∷ 5 ∷ 40 ∷ 5 ∷ [])
    ∷ case (SetWith 10 1) (0 ∷ 10 ∷ 1 ∷ 10 ∷ 1 ∷ [])
    ∷ case (SetWith 1000 10) (0 ∷ 1000 ∷ 10 ∷ 1000 ∷ 10 ∷ [])
    ∷ case (SetWith 9 5) (1 ∷ [])
    ∷ case (SetWith 1001 5) (1 ∷ [])
    ∷ case (SetWith 40 11) (1 ∷ [])
    -- request i: the limit repeats, the limit + 1 gives up; the longest delay, 1,000 × 2^11 ms
    ∷ case (ExpiredWith 10 1 1) (named RepeatCommit ∷ 0 ∷ 2 ∷ 40 ∷ 1 ∷ 0 ∷ 19 ∷ 0 ∷ [])
    ∷ case (ExpiredWith 10 1 2) (named RepeatCommit ∷ 2 ∷ 0 ∷ 0 ∷ [])
    ∷ case (ExpiredWith 1000 10 10) (named RepeatCommit ∷ 0 ∷ 11 ∷ 2048000 ∷ 1 ∷ 0 ∷ 19 ∷ 0 ∷ [])
    ∷ case (ExpiredWith 1000 10 11) (named RepeatCommit ∷ 2 ∷ 0 ∷ 0 ∷ [])
    -- request i: a link answers up to the limit too, and ends above it
    ∷ case (ConfirmedWith 1 1) (named HearAgain ∷ 2 ∷ 2 ∷ 2 ∷ 0 ∷ 0 ∷ 65535 ∷ [])
    ∷ case (ConfirmedWith 1 2) (named EndLink ∷ 0 ∷ 0 ∷ [])
    ∷ case (ConfirmedWith 10 10) (named HearAgain ∷ 2 ∷ 11 ∷ 2 ∷ 0 ∷ 0 ∷ 65535 ∷ [])
    ∷ case (ConfirmedWith 10 11) (named EndLink ∷ 0 ∷ 0 ∷ [])
    -- request i, "A stored Sync runs from 0 to limit + 1", in run and link
    ∷ case (StoredWith 1 2) (1 ∷ 1 ∷ 1 ∷ [])
    ∷ case (StoredWith 1 3) (0 ∷ 0 ∷ 0 ∷ [])
    ∷ case (StoredWith 0 6) (1 ∷ 1 ∷ 1 ∷ [])
    ∷ case (StoredWith 0 7) (0 ∷ 0 ∷ 0 ∷ [])
    ∷ case (StoredWith 10 11) (1 ∷ 1 ∷ 1 ∷ [])
    ∷ case (StoredWith 10 12) (0 ∷ 0 ∷ 0 ∷ [])
    ∷ []
