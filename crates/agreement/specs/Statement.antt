-- Demand 3, over every list of calls of two printers: what is asked of the list, and what then holds. Calls has the list and its tables, Story what
-- the answers tell of an address, Sent what was sent. `own` gives the two own addresses. The theorem is `demand3` in proofs/Demand.antt.
use Rattle.std.specs.Prelude.{◌≡◌, Bool, true, false, List, ◌∷◌, ℕ, suc, ◌≤◌, Some}
use Rattle.protocol.specs.Model.{Side, A, B, other, Commit}
use Rattle.protocol.specs.Repeats.{Within, Each, AtMost, Limited, newest_limit}
use Rattle.octets.specs.Scan.{bit}
use Rattle.octets.specs.Octets.{same_address}
use Rattle.frame.specs.Frame.{read_body}
use Rattle.frame.specs.declared.Body.TheVariants as body
use Rattle.record.specs.declared.Link as stored
use Rattle.record.specs.Layout.{no_link, limit_of}
use Rattle.record.specs.SettingsOctets.{settings_of}
use Rattle.table.specs.Table.{decode_table, look}
use Rattle.agreement.specs.Calls.{initialize, receive, Entry, table_of, answer_of, stepped, Comes}
use Rattle.agreement.specs.Story.{Pair, exchanged, Link, unlinked, finished, Story, groups_in, limit_in, uses_afresh, used_afresh, forms_pair, story_of}
use Rattle.agreement.specs.Sent.{Sent, SentOver}

-- ---- the premises

-- the call e, made after the calls h, is no refusal and uses f afresh
pub record Uses (f : Commit) (h : List Entry) (e : Entry) : Type 0 where
  pub stepped : stepped h e ≡ true
  pub afresh : uses_afresh (answer_of h e) ≡ true
  pub used : used_afresh (groups_in (table_of h e.side)) e.call (answer_of h e) ≡ f

-- a Confirm meets a run's pair, or without a run a link's
pub data Meets (s : Story) (p : Pair) : Type 0 where
  run : s.running ≡ true → s.stands ≡ true → s.pair ≡ p → Meets s p
  link : {mark : Bool} → s.running ≡ false → s.link ≡ finished p mark → Meets s p

pub record Premises (own : Side → List ℕ) (h : List Entry) : Type 0 where
  -- "the two own addresses stay"
  pub stay : (e : Entry) (before : List Entry) (size : ℕ) (buffer address settings : List ℕ) → Comes e before h → stepped before e ≡ true
      → e.call ≡ initialize size buffer address settings → address ≡ own e.side
  -- "no two calls of the whole list use the same group and commit"
  pub once : (e d : Entry) (before sooner : List Entry) (f : Commit) → Comes e before h → Comes d sooner before → Uses f before e → ¬ Uses f sooner d
  -- "From the other printer comes only what an earlier call of it sent to this one."
  pub only : (X : Side) (e : Entry) (before : List Entry) (address : List ℕ) (time : ℕ) (frame fresh expected : List ℕ) (verdict : ℕ)
      → Comes e before h → stepped before e ≡ true → e.side ≡ X → e.call ≡ receive address time frame fresh expected verdict
      → same_address address (own (other X)) ≡ true
      → Sent (other X) (own X) frame before
  -- "A Confirm from it that meets a run's pair, or without a run a link's, gets verdict 1 only if the other made it over that same pair."
  pub right : (X : Side) (e : Entry) (before : List Entry) (address : List ℕ) (time : ℕ) (frame fresh expected : List ℕ) (n : ℕ) (p : Pair)
      → Comes e before h → stepped before e ≡ true → e.side ≡ X → e.call ≡ receive address time frame fresh expected 1
      → same_address address (own (other X)) ≡ true
      → read_body (groups_in (table_of before X)) frame ≡ Some (body.Confirm n) → Meets (story_of before X (own (other X))) p
      → SentOver (other X) (own X) frame (exchanged p) before

-- ---- what a printer is set to

-- the Sync limit of every set up of X that is not refused stands for n
abbrev pub SetTo : ℕ → Side → List Entry → Type 0
SetTo n X h = (e : Entry) (before : List Entry) (size : ℕ) (buffer address settings : List ℕ) → Comes e before h → stepped before e ≡ true → e.side ≡ X
    → e.call ≡ initialize size buffer address settings → limit_of (settings_of settings).limit ≡ n

-- ---- the conclusions

-- the link of a table's record says just what the story's link is
pub data Says : Link → stored.Link → Type 0 where
  no-link : Says unlinked no_link
  a_link : {p : Pair} {mark : Bool} {l : stored.Link}
      → l.finished ≡ 1 → l.superseded ≡ bit mark → l.group ≡ p.group → l.own ≡ p.own → l.peer ≡ p.peer
      → Says (finished p mark) l

-- X formed the pair p with the address a in a call of the list
pub record Formed (X : Side) (a : List ℕ) (p : Pair) (h : List Entry) : Type 0 where
  pub call : Entry
  pub before : List Entry
  pub comes : Comes call before h
  pub by : call.side ≡ X
  pub stepped : stepped before call ≡ true
  pub to : same_address (answer_of before call).address a ≡ true
  pub forms : forms_pair call.call (answer_of before call) ≡ true
  pub pair : (story_of (call ∷ before) X a).pair ≡ p

pub record Demand3 (own : Side → List ℕ) (h : List Entry) : Type 0 where
  -- (a) "The table's link flag, mark, group and commits say just this", for every printer and address
  pub says : (X : Side) (a : List ℕ) → Says (story_of h X a).link (look (decode_table (table_of h X)) a).link
  -- (b) two finished links with each other, neither marked: the same group and the same two commits
  pub agree : Premises own h → (p q : Pair) → (story_of h A (own B)).link ≡ finished p false → (story_of h B (own A)).link ≡ finished q false → q ≡ exchanged p
  -- (c) every finished link with the other: the other formed the same pair in a call of the list
  pub formed : Premises own h → (X : Side) (p : Pair) (mark : Bool) → (story_of h X (own (other X))).link ≡ finished p mark
      → Formed (other X) (own X) (exchanged p) h
  -- (d) "at most limit + 1 repeats before the pair stands and as many after, where the two printers may be set differently": every run at every address, the
  -- limit being that of the table it began in
  pub repeats : (X : Side) (a : List ℕ) → AtMost (story_of h X a).runs
  -- which is the printer's own table as long as the run lasts
  pub lasts : (X : Side) (a : List ℕ) → (story_of h X a).running ≡ true → newest_limit (story_of h X a).runs ≡ limit_in (table_of h X)
  -- "Sync limit 1 to 10": so every run has at most eleven repeats before its pair stands and eleven after, whatever the printers were set to
  pub limits : (X : Side) (a : List ℕ) → Limited (λ n. (1 ≤ n) × (n ≤ 10)) (story_of h X a).runs
  pub eleven : (X : Side) (a : List ℕ) → Each (Within 11) (story_of h X a).runs
  -- where a printer's set ups all have the limit n, n + 1: six at the factory's 5, or at 0, whatever the other printer is set to
  pub set : (X : Side) (n : ℕ) → SetTo n X h → (a : List ℕ) → Each (Within (suc n)) (story_of h X a).runs
