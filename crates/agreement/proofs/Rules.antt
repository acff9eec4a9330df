-- What a step can do to a record and say of it: the few kinds of steps that the list of calls tells apart, and each rule's steps are of these kinds.
use mathlib.Core.Path.{◌≡◌, refl}
use mathlib.Core.Logic.{◌⊎◌}
use mathlib.Core.Bool.{Bool, true, false}
use mathlib.Core.List.{List}
use Prim.Native.Nat.{ℕ, ◌+◌, ◌≤◌}
use lib.Dec.{eqb}
use lib.ListN.{take}
use Rattle.std.specs.Prelude.{if◌then◌else◌, Some}
use Rattle.groups.specs.Groups.{stored, commit_length, fresh_for}
use Rattle.frame.specs.Frame.{read_body, commit_of}
use Rattle.frame.specs.declared.Body.TheVariants as body
use Rattle.record.specs.declared.Peer.{Peer}
use Rattle.record.specs.Layout.{no_run, no_link}
use Rattle.rules.specs.declared.Frames.TheVariants as frames
use Rattle.rules.specs.declared.Event.TheVariants as event
use Rattle.rules.specs.Book.{◌isnt◌, Step, commit_frame, confirm_frame, supersede}
use Rattle.agreement.specs.Calls.{Call, receive}
use Rattle.agreement.specs.Story.{is_start, is_frame, frame_of, stock_in}

-- what holds of both arms, each under its test, holds of the whole
pub either : {A : Type 0} (P : A → Type 0) (b : Bool) {x y : A} → (b ≡ true → P x) → (b ≡ false → P y) → P (if b then x else y)
either P true f g = f refl
either P false f g = g refl

-- ---- kinds of steps

-- a part without run or link is empty
pub record Whole (p : Peer) : Type 0 where
  pub run : p.run.state ≡ 0 → p.run ≡ no_run
  pub link : p.link.finished ≡ 0 → p.link ≡ no_link

-- the run's state, group, commits and counters are what they were
pub record SameRun (p q : Peer) : Type 0 where
  pub free : p.run ≡ no_run → q.run ≡ no_run
  pub state : q.run.state ≡ p.run.state
  pub group : q.run.group ≡ p.run.group
  pub own : q.run.own ≡ p.run.own
  pub peer : q.run.peer ≡ p.run.peer
  pub sync : q.run.sync ≡ p.run.sync
  pub sc : q.run.sc ≡ p.run.sc

-- the link's flag, mark, group and commits are what they were
pub record SameLink (p q : Peer) : Type 0 where
  pub free : p.link ≡ no_link → q.link ≡ no_link
  pub finished : q.link.finished ≡ p.link.finished
  pub superseded : q.link.superseded ≡ p.link.superseded
  pub group : q.link.group ≡ p.link.group
  pub own : q.link.own ≡ p.link.own
  pub peer : q.link.peer ≡ p.link.peer

-- a commit used afresh: the stock's for its group
pub record Afresh (gs : List ℕ) (c : Call) (g : ℕ) (own : List ℕ) : Type 0 where
  pub some : eqb g 0 ≡ false
  pub stock : own ≡ fresh_for gs (stock_in gs c) g
  pub padded : stored (take (commit_length g) own) ≡ own

-- the run becomes Committed so
pub record Committed (q : Peer) (n g : ℕ) (c : List ℕ) : Type 0 where
  pub state : q.run.state ≡ 1
  pub sync : q.run.sync ≡ n
  pub group : q.run.group ≡ g
  pub own : q.run.own ≡ c

-- the run becomes Confirmed so
pub record Confirmed (q : Peer) (n m g : ℕ) (c d : List ℕ) : Type 0 where
  pub state : q.run.state ≡ 2
  pub sync : q.run.sync ≡ n
  pub sc : q.run.sc ≡ m
  pub group : q.run.group ≡ g
  pub own : q.run.own ≡ c
  pub peer : q.run.peer ≡ d

-- the frame has a commit in the group g: these octets, as when stored
pub record Hears (gs : List ℕ) (c : Call) (g : ℕ) (theirs : List ℕ) : Type 0 where
  pub token : ℕ
  pub frame : is_frame c ≡ true
  pub reads : read_body gs (frame_of c) ≡ Some (body.Commit g token)
  pub stored_as : theirs ≡ stored (commit_of (frame_of c) g token)

-- the frame is a Confirm with verdict 1
pub data Verified (gs : List ℕ) : Call → Type 0 where
  verified : {address : List ℕ} {time : ℕ} {frame fresh expected : List ℕ} {n : ℕ}
      → read_body gs frame ≡ Some (body.Confirm n) → Verified gs (receive address time frame fresh expected 1)

pub data Does (gs : List ℕ) (limit : ℕ) (c : Call) (p : Peer) : Step → Type 0 where
  -- nothing is sent, used or told, and the record says what it said
  quiet : {q : Peer} {d : Bool} → is_start c ≡ false → SameRun p q → SameLink p q
      → Does gs limit c p (record { peer = q; event = event.None; frames = frames.None; afresh = 0; refused = d })
  -- a 76 or 77 without a run
  informs : {x g : ℕ} → is_start c ≡ false → p.run.state ≡ 0 → eqb x 0 ≡ false
      → Does gs limit c p (record { peer = p; event = event.None; frames = frames.One (record { sequence = 1; status = x; group = g; counter = 0 }); afresh = 0; refused = false })
  -- a start
  starts : {q : Peer} {g : ℕ} {own : List ℕ} → is_start c ≡ true → is_frame c ≡ false → p.run.state ≡ 0 → Afresh gs c g own → Committed q 0 g own → q.link ≡ p.link
      → Does gs limit c p (record { peer = q; event = event.None; frames = frames.One (commit_frame g); afresh = g; refused = false })
  -- a switch of group
  switches : {q : Peer} {g : ℕ} {own : List ℕ} → is_start c ≡ false → p.run.state ≡ 1 → Afresh gs c g own → Committed q p.run.sync g own → q.link ≡ p.link
      → Does gs limit c p (record { peer = q; event = event.None; frames = frames.One (commit_frame g); afresh = g; refused = false })
  -- a pair formed with a fresh commit, or with the run's own
  forms_fresh : {q : Peer} {g : ℕ} {own theirs : List ℕ} → is_start c ≡ false → (p.run.state ≡ 0) ⊎ (p.run.state ≡ 1)
      → Afresh gs c g own → Hears gs c g theirs → Confirmed q 0 1 g own theirs → q.link ≡ supersede p.link
      → Does gs limit c p (record { peer = q; event = event.None; frames = frames.Two (commit_frame g) (confirm_frame 1); afresh = g; refused = false })
  forms_own : {q : Peer} {theirs : List ℕ} → is_start c ≡ false → p.run.state ≡ 1
      → Hears gs c p.run.group theirs → Confirmed q 0 1 p.run.group p.run.own theirs → q.link ≡ supersede p.link
      → Does gs limit c p (record { peer = q; event = event.None; frames = frames.One (confirm_frame 1); afresh = 0; refused = false })
  -- a repeat in Committed, the reply to a 76 among them
  repeats : {q : Peer} {x g : ℕ} → is_start c ≡ false → p.run.state ≡ 1 → p.run.sync ≤ limit
      → Committed q (p.run.sync + 1) p.run.group p.run.own → q.link ≡ p.link
      → Does gs limit c p (record { peer = q; event = event.None; frames = frames.One (record { sequence = 1; status = x; group = g; counter = 0 }); afresh = 0; refused = false })
  -- a repeat in Confirmed, of Commit and Confirm or of the Confirm
  repeats_both : {q : Peer} {g : ℕ} → is_start c ≡ false → p.run.state ≡ 2 → p.run.sync ≤ limit
      → Confirmed q (p.run.sync + 1) (p.run.sc + 1) p.run.group p.run.own p.run.peer → q.link ≡ p.link
      → Does gs limit c p (record { peer = q; event = event.None; frames = frames.Two (commit_frame g) (confirm_frame (p.run.sc + 1)); afresh = 0; refused = false })
  repeats_confirm : {q : Peer} → is_start c ≡ false → p.run.state ≡ 2 → p.run.sync ≤ limit
      → Confirmed q (p.run.sync + 1) (p.run.sc + 1) p.run.group p.run.own p.run.peer → q.link ≡ p.link
      → Does gs limit c p (record { peer = q; event = event.None; frames = frames.One (confirm_frame (p.run.sc + 1)); afresh = 0; refused = false })
  -- the run becomes the link
  accepts : {q : Peer} → is_start c ≡ false → p.run.state ≡ 2 → Verified gs c → q.run ≡ no_run
      → q.link.finished ≡ 1 → q.link.superseded ≡ 0 → q.link.group ≡ p.run.group → q.link.own ≡ p.run.own → q.link.peer ≡ p.run.peer
      → Does gs limit c p (record { peer = q; event = event.Accepted; frames = frames.None; afresh = 0; refused = false })
  -- the run ends
  abandons : {q : Peer} → is_start c ≡ false → q.run ≡ no_run → q.link ≡ p.link
      → Does gs limit c p (record { peer = q; event = event.Abandoned; frames = frames.None; afresh = 0; refused = false })
  -- the link ends
  ends : {q : Peer} → is_start c ≡ false → q.run ≡ p.run → q.link ≡ no_link
      → Does gs limit c p (record { peer = q; event = event.Ended; frames = frames.None; afresh = 0; refused = false })
  -- a link's Confirm
  answers : {q : Peer} → is_start c ≡ false → p.run.state ≡ 0 → p.link.finished isnt 0 ≡ true → q.run ≡ p.run → SameLink p q
      → Does gs limit c p (record { peer = q; event = event.None; frames = frames.One (confirm_frame 65535); afresh = 0; refused = false })
