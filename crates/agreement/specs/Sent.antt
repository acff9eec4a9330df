-- What a printer sent to an address, octet by octet, and over which pair a Confirm was made.
use Rattle.std.specs.Prelude.{◌≡◌, true, List, [], ◌∷◌, ℕ, if◌then◌else◌}
use Rattle.protocol.specs.Model.{Side}
use Rattle.octets.specs.Octets.{same_address}
use Rattle.frame.specs.Writing.{Drawn, Octets, parts_body}
use Rattle.table.specs.Table.{decode_table, look}
use Rattle.rules.specs.declared.Frame.{Frame}
use Rattle.rules.specs.declared.Frames.{Frames}
use Rattle.rules.specs.declared.Frames.TheVariants.{One, Two}
use Rattle.rules.specs.Book.{◌is◌}
use Rattle.writer.specs.Writer.{draws, record_body}
use Rattle.agreement.specs.Calls.{Writing, write_parts, write_record, Call, initialize, initiate, kill, receive, expire, write, fill, move, Entry, writes, table_of, answer_of, stepped, Comes}
use Rattle.agreement.specs.Story.{Pair, Link, unlinked, finished, Story, groups_in, is_confirm, story_of}

-- the token that the host expects, which a 76 carries
abbrev pub expected_of : Call → List ℕ
expected_of (initialize size buffer own settings) = []
expected_of (initiate address time fresh) = []
expected_of (kill address) = []
expected_of (receive address time frame fresh expected verdict) = expected
expected_of (expire time) = []
expected_of (write w) = []
expected_of fill = []
expected_of (move d target) = []

-- "The frames in an answer are sent to its address as the writer makes them from the table just left": a status 0 frame is the record's own, a 76 or
-- 77 is made from its parts
abbrev pub drawn : List ℕ → List ℕ → List ℕ → List ℕ → Frame → Drawn
drawn t address value expected x =
    if x.status is 0 then record_body (groups_in t) (look (decode_table t) address) x.sequence value
    else parts_body (groups_in t) x.sequence x.status x.group x.counter (if x.status is 76 then expected else []) []

-- one of the frames of an answer
pub data Among (x : Frame) : Frames → Type 0 where
  only : Among x (One x)
  first : {y : Frame} → Among x (Two x y)
  second : {y : Frame} → Among x (Two y x)

-- the call e, made after the calls h, is X's, no refusal, and sends these octets to the address a by the frame x of its answer
pub record SendsBy (X : Side) (a octets : List ℕ) (h : List Entry) (e : Entry) (x : Frame) : Type 0 where
  pub by : e.side ≡ X
  pub stepped : stepped h e ≡ true
  pub to : same_address (answer_of h e).address a ≡ true
  pub among : Among x (answer_of h e).frames
  pub made : drawn (table_of (e ∷ h) e.side) (answer_of h e).address e.value (expected_of e.call) x ≡ Octets octets

-- the writer's call for the frame x of an answer to the address
abbrev pub writing : List ℕ → List ℕ → List ℕ → Frame → List ℕ → Writing
writing address value expected x out =
    if x.status is 0 then write_record address x.sequence value out
    else write_parts x.sequence x.status x.group x.counter (if x.status is 76 then expected else []) [] out

-- "as the writer makes them": from the table t the writer makes these octets of it, whatever buffer it is lent
pub record Written (t address value expected octets : List ℕ) (x : Frame) : Type 0 where
  pub makes : (out : List ℕ) → writes t (writing address value expected x out) ≡ draws (Octets octets) out

-- a call of the list sent these octets
pub record Sent (X : Side) (a octets : List ℕ) (h : List Entry) : Type 0 where
  pub call : Entry
  pub before : List Entry
  pub comes : Comes call before h
  pub frame : Frame
  pub sends : SendsBy X a octets before call frame

-- "A Confirm is made over the run's pair, with counter 65,535 over the link's."
abbrev pub link_pair : Link → Pair → Pair
link_pair unlinked q = q
link_pair (finished p m) q = p

abbrev pub made_over : Frame → Story → Pair
made_over x s = if x.counter is 65535 then link_pair s.link s.pair else s.pair

-- a call of the list sent these octets as a Confirm made over the pair p
pub record SentOver (X : Side) (a octets : List ℕ) (p : Pair) (h : List Entry) : Type 0 where
  pub call : Entry
  pub before : List Entry
  pub comes : Comes call before h
  pub frame : Frame
  pub sends : SendsBy X a octets before call frame
  pub confirm : is_confirm frame ≡ true
  pub over : made_over frame (story_of (call ∷ before) X a) ≡ p
