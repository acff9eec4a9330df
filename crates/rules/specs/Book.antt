-- THE RULE BOOK: the scope's rules for one peer, to be read from top to bottom.
--   1  what a rule sees        what the table says, what the call brings, the frame heard, the peer's record
--   2  the ladders             for each state and message: test, act, and the scope's sentence on the line
--   3  the acts                what each does to the record, what it sends and tells
--   4  the rules               perform what the ladder says; there is no other saying of them
-- A request that changes when something is done changes a line of 2; one that changes what is done changes a case of 3.
use Rattle.std.specs.Prelude.{Bool, true, false, not, ◌&&◌, ◌||◌, List, ℕ, ◌+◌, ◌-◌, ◌*◌, ◌^◌, ◌%◌, eqb, ltb, take, get_or, replicate, if◌then◌else◌, Option, Some, None}
use Rattle.octets.specs.Octets.{part, same, higher}
use Rattle.groups.specs.Groups.{width, scalar_length, index_of, mark, first_left, fresh_at, fresh_for}
use Rattle.record.specs.declared.Run.{Run}
use Rattle.record.specs.declared.Link.{Link}
use Rattle.record.specs.declared.Peer.{Peer}
use Rattle.record.specs.Layout.{no_run, no_link, no_peer}
use Rattle.rules.specs.Parts.{with_t0, with_sync, with_sc, with_token, switched, with_mark, heard_again, with_run, with_link}
use Rattle.rules.specs.Message.{Message}
use Rattle.rules.specs.declared.Clock.{Clock}
use Rattle.rules.specs.declared.Act.{Act}
use Rattle.rules.specs.declared.Act.TheVariants.{Drop, RefuseGroup, AskToken, NoSlot, AnswerCommit, ConfirmCommit, ReplyToken, SwitchGroup, RepeatCommit, RepeatRefusal, ResendBoth, ConfirmAgain, GiveUp, Accept, HearAgain, HearLast, EndLink, Begin}
use Rattle.rules.specs.declared.Event.{Event}
use Rattle.rules.specs.declared.Event.TheVariants as event
use Rattle.rules.specs.declared.Frame.{Frame}
use Rattle.rules.specs.declared.Frames.{Frames}
use Rattle.rules.specs.declared.Frames.TheVariants.{One, Two}
use Rattle.rules.specs.declared.Frames.TheVariants as frames

-- ==== 1. What a rule sees =========================================================================================================================

-- What the table says to a peer's rules. Others' calls reach a peer only through the last two.
pub record Terms : Type 0 where
  -- our own address
  pub own : List ℕ
  -- the groups, in order of preference
  pub groups : List ℕ
  -- "Open at or above the threshold"
  pub crowded : Bool
  -- the peer has no record, and no slot is free for one
  pub full : Bool

-- What a call brings.
pub record Call : Type 0 where
  -- the peer's address
  pub address : List ℕ
  -- the clock's reading, and with it the first period and the Sync limit of the table
  pub clock : Clock
  -- the stock, "for each group in list order": its commits
  pub fresh : List (List ℕ)
  -- the token "that the host expects from this sender"
  pub expected : List ℕ
  -- "one verdict: commit valid, or Confirm right for the part it goes to"
  pub verified : Bool

-- The peer's record is a `Peer`, the free one where the address has none; the frame heard is a `Message`, and a start or the clock brings none.
abbrev pub silence : Message
silence =
    record { sequence = 0; status = 0; group = 0; counter = 0; listed = false; toklen = 0; token = replicate 256 0; commit = replicate width 0 }

-- ---- the clock: "a 32-bit count of milliseconds that wraps"

-- so many milliseconds after the reading, modulo 2^32
unfoldable pub deadline : ℕ → ℕ → ℕ
deadline time delay = (time + delay) % 2 ^ 32

-- "A deadline is due when (reading − deadline) modulo 2^32 is below 2^31."
unfoldable pub due : ℕ → ℕ → Bool
due time deadline = ltb ((time + 2 ^ 32 - deadline) % 2 ^ 32) (2 ^ 31)

-- ---- tests that read like the scope

infixl 20 ◌is◌
abbrev pub ◌is◌ : ℕ → ℕ → Bool
a is b = eqb a b

infixl 20 ◌isnt◌
abbrev pub ◌isnt◌ : ℕ → ℕ → Bool
a isnt b = not (eqb a b)

infixl 20 ◌above◌
abbrev pub ◌above◌ : ℕ → ℕ → Bool
a above b = ltb b a

-- a test that is a Bool already; shut, so that a search finds its value by the laws of `holds` and not by the Bool itself
unfoldable pub holds : Bool → Bool
holds b = b

-- the states of a run: 0 Nothing, 1 Committed, 2 Confirmed
abbrev pub has_run : Peer → Bool
has_run p = p.run.state isnt 0

abbrev pub in_committed : Peer → Bool
in_committed p = p.run.state is 1

abbrev pub in_confirmed : Peer → Bool
in_confirmed p = p.run.state is 2

abbrev pub has_link : Peer → Bool
has_link p = p.link.finished isnt 0

-- "Supported means listed in the table."
abbrev pub unsupported : Message → Bool
unsupported m = not (holds m.listed)

-- "finished link with that group and peer scalar": the scalar alone
unfoldable pub linked_with : Link → Message → Bool
linked_with l m = (l.finished isnt 0) && ((l.group is m.group) && same (part m.commit 0 (scalar_length m.group)) (part l.peer 0 (scalar_length m.group)))

abbrev pub linked : Peer → Message → Bool
linked p m = holds (linked_with p.link m)

-- "Open at or above the threshold: empty token"
abbrev pub lacks_token : Terms → Message → Bool
lacks_token t m = holds (t.crowded && (m.toklen is 0))

-- "wrong token", Open being at or above the threshold
abbrev pub wrong_token : Terms → Call → Message → Bool
wrong_token t c m = holds (t.crowded && not (same (take m.toklen m.token) c.expected))

-- our fresh commit of the frame's group
abbrev pub our_fresh : Terms → Call → Message → List ℕ
our_fresh t c m = fresh_for t.groups c.fresh m.group

-- "equal to our stock's", "equal to our commit"
abbrev pub equals_fresh : Terms → Call → Message → Bool
equals_fresh t c m = holds (same m.commit (our_fresh t c m))

abbrev pub equals_own : Peer → Message → Bool
equals_own p m = holds (same m.commit p.run.own)

-- "verdict 0"
abbrev pub unverified : Call → Bool
unverified c = not (holds c.verified)

-- "higher own address"
abbrev pub outranks : Terms → Call → Bool
outranks t c = holds (higher t.own c.address)

-- "no slot"
abbrev pub no_slot : Terms → Bool
no_slot t = holds t.full

-- "Sync above 5", of the run and of the link: above the Sync limit of the table, the factory's or what it is set to (request i)
abbrev pub spent : Call → Peer → Bool
spent c p = p.run.sync above c.clock.limit

abbrev pub link_spent : Call → Peer → Bool
link_spent c p = p.link.sync above c.clock.limit

-- a deadline of the record is due: t0 counts only with a run, t1 only with a link
unfoldable pub t0_due : Peer → ℕ → Bool
t0_due p time = (p.run.state isnt 0) && due time p.run.t0

unfoldable pub t1_due : Peer → ℕ → Bool
t1_due p time = (p.link.finished isnt 0) && due time p.link.t1

-- "the due record"
unfoldable pub expired : Peer → ℕ → Bool
expired p time = t0_due p time || t1_due p time

-- ==== 2. The ladders: the first test that holds names the act ====================================================================================

-- "Start: …"
unfoldable pub start_act : Terms → Act
start_act t =
    if no_slot t then NoSlot  -- "New record needed, no free slot"
    else Begin  -- "Committed, first group, fresh commit, Sync 0, no token, send Commit, set t0."

-- "Commit, no run, in this order:"
unfoldable pub commit_idle : Terms → Call → Peer → Message → Act
commit_idle t c p m =
    if m.status isnt 0 then Drop  -- "status nonzero, drop;"
    else if unsupported m then RefuseGroup  -- "unsupported group, send 77 with it;"
    else if linked p m then Drop  -- "finished link with that group and peer scalar, drop;"
    else if lacks_token t m then AskToken  -- "Open at or above the threshold: empty token, send 76 with group and expected token;"
    else if wrong_token t c m then Drop  -- "wrong token, drop;"
    else if equals_fresh t c m then Drop  -- "then commit equal to our stock's,
    else if unverified c then Drop  --  or verdict 0, drop;"
    else if no_slot t then NoSlot  -- "no slot, refuse;"
    else AnswerCommit  -- "else fresh commit, Form, send Commit and Confirm."

-- "Commit in Committed:"
unfoldable pub commit_committed : Terms → Call → Peer → Message → Act
commit_committed t c p m =
    if m.status is 76 then
    (if m.group is p.run.group then ReplyToken  -- "76: our group, store the token, send Commit with it": a Repeat (request j);
    else Drop)  -- "other group, drop."
    else if m.status is 77 then
    (if m.group is p.run.group then SwitchGroup  -- "77: our group, mark it rejected and take the first group … not marked …; none, give up.
    else Drop)  --  Other group, drop.
    else if m.status isnt 0 then Drop  --  Other nonzero status, drop."
    else if unsupported m then RepeatRefusal  -- "0: unsupported group, Repeat sending 77.
    else if m.group isnt p.run.group then  --  Supported but not ours:
    (if outranks t c then RepeatCommit  --  higher own address, Repeat the Commit;
    else if unverified c then Drop  --  lower: verdict 0
    else if equals_fresh t c m then Drop  --  or equal to our stock's, drop;
    else AnswerCommit)  --  else fresh commit, Form, send Commit and Confirm.
    else if equals_own p m then Drop  --  Ours: equal to our commit
    else if unverified c then Drop  --  or verdict 0, drop;
    else ConfirmCommit  --  else Form, send Confirm."

-- "Confirmed. Commit:"
unfoldable pub commit_confirmed : Call → Peer → Message → Act
commit_confirmed c p m =
    if m.status isnt 0 then Drop  -- "status nonzero, drop;"
    else if spent c p then GiveUp  -- "Sync above 5, give up;"
    else if m.group isnt p.run.group then Drop  -- "group differs, drop;"
    else ResendBoth  -- "else Sync + 1, Sc + 1, send Commit and Confirm, set t0; the stored peer commit stays."

-- "Confirm in Committed:"
unfoldable pub confirm_committed : Message → Act
confirm_committed m =
    if m.status isnt 0 then Drop  -- "nonzero status, drop;"
    else RepeatCommit  -- "else Repeat the Commit."

-- "Confirmed. Confirm:"
unfoldable pub confirm_confirmed : Call → Message → Act
confirm_confirmed c m =
    if m.status isnt 0 then Drop  -- "status nonzero
    else if unverified c then Drop  --  or verdict 0, drop;"
    else Accept  -- "else the run becomes the link"

-- "Link, no run, Confirm:"
unfoldable pub confirm_linked : Call → Peer → Message → Act
confirm_linked c p m =
    if m.status isnt 0 then Drop  -- "status nonzero, drop;"
    else if link_spent c p then EndLink  -- "its Sync above 5, link ends;"
    else if not (m.counter above p.link.rc) then Drop  -- "counter not above Rc, drop;"
    else if unverified c then Drop  -- "verdict 0, drop;"
    else if m.counter is 65535 then HearLast  -- "else Rc is the counter,
    else HearAgain  --  and unless that is 65,535, Sync + 1 and a Confirm with counter 65,535."

-- The clock, a deadline of the record being due: "t0 before t1".
unfoldable pub clock_act : Peer → ℕ → Act
clock_act p time =
    if holds (t0_due p time) then
    (if in_confirmed p then ConfirmAgain  -- Confirmed. "t0: Repeat with Sc + 1 and a new Confirm."
    else RepeatCommit)  -- Committed. "t0: Repeat the Commit."
    else EndLink  -- "t1: link ends."

-- "A run takes all frames while it lasts."
unfoldable pub commit_act : Terms → Call → Peer → Message → Act
commit_act t c p m =
    if in_committed p then commit_committed t c p m
    else if in_confirmed p then commit_confirmed c p m
    else commit_idle t c p m

unfoldable pub confirm_act : Call → Peer → Message → Act
confirm_act c p m =
    if in_committed p then confirm_committed m
    else if in_confirmed p then confirm_confirmed c m
    else if has_link p then confirm_linked c p m
    else Drop  -- "Confirm with neither: drop."

unfoldable pub frame_act : Terms → Call → Peer → Message → Act
frame_act t c p m = if m.sequence is 1 then commit_act t c p m else confirm_act c p m

-- ==== 3. The acts =================================================================================================================================

-- What an act makes of a record, and says: the event, the frames, the group of the commit used afresh or 0; refused: "no slot, refuse".
pub record Step : Type 0 where
  pub peer : Peer
  pub event : Event
  pub frames : Frames
  pub afresh : ℕ
  pub refused : Bool

-- "host event (0 none, 1 accepted, 2 run given up, 3 link ended)"
abbrev pub event_number : Event → ℕ
event_number event.None = 0
event_number event.Accepted = 1
event_number event.Abandoned = 2
event_number event.Ended = 3

-- "frames to send, each by sequence, status, group and counter (0 where it has none)"
abbrev pub commit_frame : ℕ → Frame
commit_frame group = record { sequence = 1; status = 0; group = group; counter = 0 }

abbrev pub token_request_frame : ℕ → Frame
token_request_frame group = record { sequence = 1; status = 76; group = group; counter = 0 }

abbrev pub group_refusal_frame : ℕ → Frame
group_refusal_frame group = record { sequence = 1; status = 77; group = group; counter = 0 }

abbrev pub confirm_frame : ℕ → Frame
confirm_frame counter = record { sequence = 2; status = 0; group = 0; counter = counter }

-- ---- the scope's own words: "Set t0", "Repeat", "Give up", "Drop", "Form"

-- "40 × 2^Sync is worked out" (request d): the first period of the table, 40 or what it is set to (request i), doubled Sync times
unfoldable pub delay : Clock → ℕ → ℕ
delay κ sync = κ.period * 2 ^ sync

-- "Set t0": deadline = now + 40 × 2^Sync, modulo 2^32, the 40 as above.
unfoldable pub set_t0 : Clock → Run → Run
set_t0 κ r = with_t0 r (deadline κ.time (delay κ r.sync))

-- frames are sent for a run, which becomes r, and t0 is set
unfoldable pub sending : Clock → Peer → Run → Frames → ℕ → Step
sending κ p r fs afresh = record { peer = with_run p (set_t0 κ r); event = event.None; frames = fs; afresh = afresh; refused = false }

-- a frame is answered, or not, and the record is p
unfoldable pub answering : Peer → Frames → Step
answering p fs = record { peer = p; event = event.None; frames = fs; afresh = 0; refused = false }

-- "no slot, refuse"
unfoldable pub refusing : Peer → Step
refusing p = record { peer = p; event = event.None; frames = frames.None; afresh = 0; refused = true }

-- "A run or link that ends in any way leaves its fields zero; a record with neither is freed."
unfoldable pub settled : Peer → Peer
settled p = if p.run.state is 0 then (if p.link.finished is 0 then no_peer else p) else p

-- "Give up": the run ends.
unfoldable pub abandoning : Peer → Step
abandoning p = record { peer = settled (with_run p no_run); event = event.Abandoned; frames = frames.None; afresh = 0; refused = false }

-- the link ends; a run stays
unfoldable pub ending_link : Peer → Step
ending_link p = record { peer = settled (with_link p no_link); event = event.Ended; frames = frames.None; afresh = 0; refused = false }

-- "Repeat": if Sync is above 5 (the table's limit), give up; else Sync + 1, send, set t0. The run that goes on is r: the record's, with the Sc or the token that it then has.
unfoldable pub retransmitting : Clock → Peer → Run → Frames → Step
retransmitting κ p r fs =
    if p.run.sync above κ.limit then abandoning p
    else sending κ p (with_sync r (p.run.sync + 1)) fs 0

-- "Drop": send nothing; "a dropped frame changes nothing in the table" (request b).
unfoldable pub dropping : Peer → Step
dropping p = answering p frames.None

-- a finished link's mark becomes 1
unfoldable pub supersede : Link → Link
supersede l =
    if l.finished is 0 then l
    else with_mark l 1

-- "Form": take the frame's group, store the peer commit, Sync 0, Sc 1, no rejected groups, Confirmed, set t0; if a link is there, its mark becomes 1.
-- The run keeps its token; the record is the address's.
unfoldable pub formed_run : Clock → Run → ℕ → List ℕ → List ℕ → Run
formed_run κ r group own theirs =
    set_t0 κ (record {
      state = 2;
      sync = 0;
      rejected = 0;
      sc = 1;
      group = group;
      toklen = r.toklen;
      t0 = r.t0;
      own = own;
      peer = theirs;
      token = r.token;
    })

unfoldable pub forming : Clock → Peer → List ℕ → ℕ → List ℕ → List ℕ → Frames → ℕ → Step
forming κ p address group own theirs fs afresh =
    record {
      peer = record { used = 1; address = address; run = formed_run κ p.run group own theirs; link = supersede p.link };
      event = event.None;
      frames = fs;
      afresh = afresh;
      refused = false;
    }

-- ---- what only one act does

-- "Committed, first group, fresh commit, Sync 0, no token"
unfoldable pub started_run : ℕ → List ℕ → Run
started_run group own =
    record {
      state = 1;
      sync = 0;
      rejected = 0;
      sc = 0;
      group = group;
      toklen = 0;
      t0 = 0;
      own = own;
      peer = replicate width 0;
      token = replicate 256 0;
    }

-- a link in the record stays as it is, its mark too
unfoldable pub starting : Clock → Peer → List ℕ → ℕ → List ℕ → Step
starting κ p address group own =
    record {
      peer = record { used = 1; address = address; run = set_t0 κ (started_run group own); link = p.link };
      event = event.None;
      frames = One (commit_frame group);
      afresh = group;
      refused = false;
    }

-- "mark it rejected and take the first group in its own list that is not marked as rejected, with a fresh commit (Sync and token stay, send, set t0); none, give up"
unfoldable pub switching_to : Clock → Peer → ℕ → Option (ℕ × ℕ) → List (List ℕ) → Step
switching_to κ p rejected (Some (i, g)) fresh = sending κ p (switched p.run rejected g (fresh_at fresh i)) (One (commit_frame g)) g
switching_to κ p rejected None fresh = abandoning p

unfoldable pub switching : Clock → Peer → List ℕ → List (List ℕ) → Step
switching κ p groups fresh =
    let rejected = mark p.run.rejected (index_of groups p.run.group) in
    switching_to κ p rejected (first_left groups 0 rejected) fresh

-- "the run becomes the link: Rc its counter, Sync carried over, mark 0, t1 = now + 86,400,000, any earlier link replaced"
unfoldable pub link_of_run : Run → ℕ → ℕ → Link
link_of_run r counter time =
    record {
      finished = 1;
      superseded = 0;
      sync = r.sync;
      spare = 0;
      group = r.group;
      rc = counter;
      t1 = deadline time 86400000;
      own = r.own;
      peer = r.peer;
    }

unfoldable pub accepting : Peer → ℕ → ℕ → Step
accepting p counter time =
    record {
      peer = record { used = p.used; address = p.address; run = no_run; link = link_of_run p.run counter time };
      event = event.Accepted;
      frames = frames.None;
      afresh = 0;
      refused = false;
    }

-- the run's Commit, and its Confirm with Sc + 1
abbrev pub its_commit : Peer → Frame
its_commit p = commit_frame p.run.group

abbrev pub next_confirm : Peer → Frame
next_confirm p = confirm_frame (p.run.sc + 1)

-- "fresh commit, Form, send Commit and Confirm": `own` is the fresh commit
unfoldable pub answering_commit : Clock → Peer → List ℕ → Message → List ℕ → Step
answering_commit κ p address m own =
    forming κ p address m.group own m.commit (Two (commit_frame m.group) (confirm_frame 1)) m.group

-- "Form, send Confirm"
unfoldable pub confirming_commit : Clock → Peer → List ℕ → Message → Step
confirming_commit κ p address m = forming κ p address m.group p.run.own m.commit (One (confirm_frame 1)) 0

-- "Repeat the Commit", "Repeat sending 77", "Repeat with Sc + 1 and a new Confirm"
unfoldable pub repeating_commit : Clock → Peer → Step
repeating_commit κ p = retransmitting κ p p.run (One (its_commit p))

unfoldable pub repeating_refusal : Clock → Peer → ℕ → Step
repeating_refusal κ p group = retransmitting κ p p.run (One (group_refusal_frame group))

unfoldable pub confirming_again : Clock → Peer → Step
confirming_again κ p = retransmitting κ p (with_sc p.run (p.run.sc + 1)) (One (next_confirm p))

-- "store the token, send Commit with it"; "A Commit sent again for a 76 is now a Repeat: it gives up above the limit and raises Sync." (request j)
unfoldable pub replying_token : Clock → Peer → Message → Step
replying_token κ p m = retransmitting κ p (with_token p.run m.toklen m.token) (One (its_commit p))

-- "Sync + 1, Sc + 1, send Commit and Confirm, set t0; the stored peer commit stays"
unfoldable pub resending_both : Clock → Peer → Step
resending_both κ p = sending κ p (with_sync (with_sc p.run (p.run.sc + 1)) (p.run.sync + 1)) (Two (its_commit p) (next_confirm p)) 0

-- "Rc is the counter", which is 65,535
unfoldable pub hearing_last : Peer → ℕ → Step
hearing_last p counter = answering (with_link p (heard_again p.link counter p.link.sync)) frames.None

-- "Rc is the counter, and unless that is 65,535, Sync + 1 and a Confirm with counter 65,535"
unfoldable pub hearing_again : Peer → ℕ → Step
hearing_again p counter = answering (with_link p (heard_again p.link counter (p.link.sync + 1))) (One (confirm_frame 65535))

-- ---- each act by its name

unfoldable pub perform : Terms → Call → Peer → Message → Act → Step
perform t c p m Drop = dropping p  -- "Drop": send nothing, change nothing
perform t c p m RefuseGroup = answering p (One (group_refusal_frame m.group))  -- "send 77 with it"
perform t c p m AskToken = answering p (One (token_request_frame m.group))  -- "send 76 with group and expected token"
perform t c p m NoSlot = refusing p  -- "no slot, refuse"
perform t c p m AnswerCommit = answering_commit c.clock p c.address m (our_fresh t c m)  -- "fresh commit, Form, send Commit and Confirm"
perform t c p m ConfirmCommit = confirming_commit c.clock p c.address m  -- "Form, send Confirm"
perform t c p m ReplyToken = replying_token c.clock p m  -- "store the token, send Commit with it", a Repeat (request j)
perform t c p m SwitchGroup = switching c.clock p t.groups c.fresh  -- "mark it rejected and take the first group …; none, give up"
perform t c p m RepeatCommit = repeating_commit c.clock p  -- "Repeat the Commit"
perform t c p m RepeatRefusal = repeating_refusal c.clock p m.group  -- "Repeat sending 77"
perform t c p m ResendBoth = resending_both c.clock p  -- "Sync + 1, Sc + 1, send Commit and Confirm, set t0"
perform t c p m ConfirmAgain = confirming_again c.clock p  -- "Repeat with Sc + 1 and a new Confirm"
perform t c p m GiveUp = abandoning p  -- "Give up": the run ends
perform t c p m Accept = accepting p m.counter c.clock.time  -- "the run becomes the link"
perform t c p m HearAgain = hearing_again p m.counter  -- "Rc is the counter, Sync + 1 and a Confirm with counter 65,535"
perform t c p m HearLast = hearing_last p m.counter  -- "Rc is the counter", 65,535
perform t c p m EndLink = ending_link p  -- "link ends"
perform t c p m Begin = starting c.clock p c.address (get_or t.groups 0 0) (fresh_at c.fresh 0)  -- "Committed, first group, fresh commit, …"

-- ==== 4. The rules ================================================================================================================================

unfoldable pub on_frame : Terms → Call → Peer → Message → Step
on_frame t c p m = perform t c p m (frame_act t c p m)

unfoldable pub on_clock : Terms → Call → Peer → Step
on_clock t c p = perform t c p silence (clock_act p c.clock.time)

unfoldable pub on_start : Terms → Call → Peer → Step
on_start t c p = perform t c p silence (start_act t)
