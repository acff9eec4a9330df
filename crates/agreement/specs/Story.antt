-- What the answers of a printer's calls tell of one address, refused calls apart: commits used afresh, pairs formed, runs, the finished link and its
-- mark, repeats. The table is read for its listed groups, which say how a frame is read and which place of the stock a group has, and for its Sync
-- limit, which a run that begins keeps.
use Rattle.std.specs.Prelude.{◌≡◌, Bool, true, false, not, ◌&&◌, ◌||◌, List, [], ◌∷◌, ℕ, ◌/◌, length, if◌then◌else◌}
use Rattle.protocol.specs.Model.{Side, Commit}
use Rattle.protocol.specs.Repeats.{Tally, begun, more}
use Rattle.octets.specs.Octets.{same_address}
use Rattle.groups.specs.Groups.{fresh_of, fresh_for}
use Rattle.record.specs.Layout.{groups_of, limit_of}
use Rattle.table.specs.Table.{decode_table}
use Rattle.rules.specs.declared.Frame.{Frame}
use Rattle.rules.specs.declared.Frames.{Frames}
use Rattle.rules.specs.declared.Frames.TheVariants as frames
use Rattle.rules.specs.declared.Event.{Event}
use Rattle.rules.specs.declared.Event.TheVariants as event
use Rattle.rules.specs.Book.{◌is◌, ◌isnt◌}
use Rattle.message.specs.View.{message}
use Rattle.answers.specs.Answers.{Report}
use Rattle.agreement.specs.Calls.{Call, initialize, initiate, kill, receive, expire, write, fill, move, Entry, left, done, is_initialize, mine, table_of}

-- a pair, as one end has it
pub record Pair : Type 0 where
  pub group : ℕ
  pub own : List ℕ
  pub peer : List ℕ

-- "The same pair at the other end has own and peer exchanged."
abbrev pub exchanged : Pair → Pair
exchanged p = record { group = p.group; own = p.peer; peer = p.own }

-- the finished link and its mark
pub data Link : Type 0 where
  unlinked : Link
  finished : (pair : Pair) (mark : Bool) → Link

pub record Story : Type 0 where
  -- the commit last used afresh
  pub fresh : Commit
  -- the pair last formed
  pub pair : Pair
  -- a run is in being, and its pair stands
  pub running : Bool
  pub stands : Bool
  pub link : Link
  -- the repeats of each run, the newest first
  pub runs : List Tally

-- before all calls
abbrev pub nothing_yet : Story
nothing_yet =
    record { fresh = record { group = 0; octets = [] }; pair = record { group = 0; own = []; peer = [] }; running = false; stands = false; link = unlinked; runs = [] }

-- ---- what a call has; `groups` are the listed ones

abbrev pub is_start : Call → Bool
is_start (initialize size buffer own settings) = false
is_start (initiate address time fresh) = true
is_start (kill address) = false
is_start (receive address time frame fresh expected verdict) = false
is_start (expire time) = false
is_start (write w) = false
is_start fill = false
is_start (move d target) = false

abbrev pub is_frame : Call → Bool
is_frame (initialize size buffer own settings) = false
is_frame (initiate address time fresh) = false
is_frame (kill address) = false
is_frame (receive address time frame fresh expected verdict) = true
is_frame (expire time) = false
is_frame (write w) = false
is_frame fill = false
is_frame (move d target) = false

-- the frame of a frame call, and the stock of a start or a frame call
abbrev pub frame_of : Call → List ℕ
frame_of (initialize size buffer own settings) = []
frame_of (initiate address time fresh) = []
frame_of (kill address) = []
frame_of (receive address time frame fresh expected verdict) = frame
frame_of (expire time) = []
frame_of (write w) = []
frame_of fill = []
frame_of (move d target) = []

abbrev pub stock_of : Call → List ℕ
stock_of (initialize size buffer own settings) = []
stock_of (initiate address time fresh) = fresh
stock_of (kill address) = []
stock_of (receive address time frame fresh expected verdict) = fresh
stock_of (expire time) = []
stock_of (write w) = []
stock_of fill = []
stock_of (move d target) = []

-- the stock as commits: one of the same width for each listed group
abbrev pub stock_in : List ℕ → Call → List (List ℕ)
stock_in groups c = fresh_of (length (stock_of c) / length groups) (stock_of c)

-- the frame's group and its commit, "filled with zeros as when stored"
abbrev pub heard : List ℕ → Call → Commit
heard groups c = record { group = (message groups (frame_of c)).group; octets = (message groups (frame_of c)).commit }

-- ---- what an answer has

abbrev pub some_frame : (Frame → Bool) → Frames → Bool
some_frame f frames.None = false
some_frame f (frames.One x) = f x
some_frame f (frames.Two x y) = f x || f y

abbrev pub sends : Frames → Bool
sends frames.None = false
sends (frames.One x) = true
sends (frames.Two x y) = true

-- a Confirm, with counter 1
abbrev pub is_confirm : Frame → Bool
is_confirm x = x.sequence is 2

abbrev pub is_first_confirm : Frame → Bool
is_first_confirm x = is_confirm x && (x.counter is 1)

abbrev pub is_accepted : Event → Bool
is_accepted event.None = false
is_accepted event.Accepted = true
is_accepted event.Abandoned = false
is_accepted event.Ended = false

abbrev pub is_abandoned : Event → Bool
is_abandoned event.None = false
is_abandoned event.Accepted = false
is_abandoned event.Abandoned = true
is_abandoned event.Ended = false

-- "The commit used afresh is the stock's for the stock group in the answer, if that is not 0"
abbrev pub uses_afresh : Report → Bool
uses_afresh r = r.afresh isnt 0

abbrev pub used_afresh : List ℕ → Call → Report → Commit
used_afresh groups c r = record { group = r.afresh; octets = fresh_for groups (stock_in groups c) r.afresh }

-- "A frame call that answers a Confirm with counter 1 forms a pair"
abbrev pub forms_pair : Call → Report → Bool
forms_pair c r = some_frame is_first_confirm r.frames && is_frame c

-- "Event 1 makes the pair last formed the finished link, until event 3, a kill, a set up or another event 1. Its mark is clear until a pair is
-- formed again."
abbrev pub marked : Bool → Link → Link
marked again unlinked = unlinked
marked again (finished p mark) = finished p (again || mark)

abbrev pub link_by : Event → Bool → Pair → Link → Link
link_by event.None forms p l = marked forms l
link_by event.Accepted forms p l = finished p false
link_by event.Abandoned forms p l = l
link_by event.Ended forms p l = unlinked

-- ---- what a call does to the story. `limit`: the Sync limit of its table; `starts`: it is a start; `afresh`: it uses the commit `used` afresh;
-- `forms`: it forms a pair with the commit `theirs`; `said`: its event; `sending`: it sends

module _ (limit : ℕ) (starts afresh : Bool) (used : Commit) (forms : Bool) (theirs : Commit) (said : Event) (sending : Bool) where
  abbrev pub fresh_after : Story → Commit
  fresh_after s = if afresh then used else s.fresh

  -- "the frame's group, the commit last used afresh as own, the frame's, filled with zeros as when stored, as peer"
  abbrev pub pair_after : Story → Pair
  pair_after s = if forms then record { group = theirs.group; own = (fresh_after s).octets; peer = theirs.octets } else s.pair

  -- "A run begins with a start, or with a pair formed without a run, and ends with event 1 or 2, a kill or a set up. Its pair stands once formed."
  abbrev pub begins : Story → Bool
  begins s = starts || (forms && not s.running)

  abbrev pub ends : Bool
  ends = is_accepted said || is_abandoned said

  abbrev pub running_after : Story → Bool
  running_after s = not ends && (s.running || begins s)

  abbrev pub stands_after : Story → Bool
  stands_after s = not ends && (s.stands || forms)

  abbrev pub link_after : Story → Link
  link_after s = link_by said forms (pair_after s) s.link

  -- "A repeat is a call in a run that sends, uses nothing afresh, forms nothing": the reply to a 76 is one too (request j)
  abbrev pub repeats : Story → Bool
  repeats s = s.running && (sending && (not afresh && not forms))

  abbrev pub runs_after : Story → List Tally
  runs_after s =
      if begins s then begun limit ∷ s.runs
      else if repeats s then more s.stands s.runs
      else s.runs

  unfoldable pub told : Story → Story
  told s =
      record { fresh = fresh_after s; pair = pair_after s; running = running_after s; stands = stands_after s; link = link_after s; runs = runs_after s }

-- the call c with the answer r
abbrev pub answered : List ℕ → ℕ → Call → Report → Story → Story
answered groups limit c r s =
    told limit (is_start c) (uses_afresh r) (used_afresh groups c r) (forms_pair c r) (heard groups c) r.event (sends r.frames) s

-- a kill or a set up ends run and link
abbrev pub clears : Call → Bool
clears (initialize size buffer own settings) = true
clears (initiate address time fresh) = false
clears (kill address) = true
clears (receive address time frame fresh expected verdict) = false
clears (expire time) = false
clears (write w) = false
clears fill = false
clears (move d target) = false

unfoldable pub cleared : Story → Story
cleared s = record { fresh = s.fresh; pair = s.pair; running = false; stands = false; link = unlinked; runs = s.runs }

-- ---- the story of an address

abbrev pub groups_in : List ℕ → List ℕ
groups_in t = groups_of (decode_table t).header

abbrev pub limit_in : List ℕ → ℕ
limit_in t = limit_of (decode_table t).header.settings.limit

-- a set up that is not refused is about every address, another call about its answer's
abbrev pub is_about : List ℕ → Call → List ℕ → Bool
is_about t c a = if is_initialize c then done t c else done t c && same_address (left t c).answer.address a

abbrev pub told_by : List ℕ → Call → Story → Story
told_by t c s = if clears c then cleared s else answered (groups_in t) (limit_in t) c (left t c).answer s

unfoldable pub story_after : List ℕ → Call → List ℕ → Story → Story
story_after t c a s = if is_about t c a then told_by t c s else s

-- what the calls of X tell of the address a
unfoldable pub story_of : List Entry → Side → List ℕ → Story
story_of [] X a = nothing_yet
story_of (e ∷ h) X a = mine e.side X (story_after (table_of h X) e.call a (story_of h X a)) (story_of h X a)

-- two lists of calls leave the same tables and tell the same stories
pub record Alike (h k : List Entry) : Type 0 where
  pub table : (X : Side) → table_of h X ≡ table_of k X
  pub story : (X : Side) (a : List ℕ) → story_of h X a ≡ story_of k X a
