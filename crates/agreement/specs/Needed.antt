-- Demand 3 with less asked of the list than the scope's premises. Nothing is asked of own addresses, of calls about other addresses, of frames that form
-- no pair and of Confirms that are not accepted; and of single links only that an accepted Confirm is right. `Premises` gives this (`premises-needed`),
-- and demand 3 is proved from this alone (`demand3-needed`), both in proofs/Demand.antt.
use Rattle.std.specs.Prelude.{◌≡◌, Bool, true, false, List, ℕ, Some}
use Rattle.protocol.specs.Model.{Side, A, B, other, Commit}
use Rattle.octets.specs.Octets.{same_address}
use Rattle.groups.specs.Groups.{stored}
use Rattle.frame.specs.Frame.{read_body, commit_of}
use Rattle.frame.specs.declared.Body.TheVariants as body
use Rattle.agreement.specs.Calls.{receive, Entry, table_of, answer_of, stepped, Comes}
use Rattle.agreement.specs.Story.{Pair, exchanged, finished, is_accepted, forms_pair, groups_in, story_of}
use Rattle.agreement.specs.Sent.{Sent, SentOver}
use Rattle.agreement.specs.Statement.{Uses, Formed}

-- the call e, made after the calls h, uses f afresh with the other printer
pub record UsesMutually (own : Side → List ℕ) (f : Commit) (h : List Entry) (e : Entry) : Type 0 where
  pub uses : Uses f h e
  pub to : same_address (answer_of h e).address (own (other e.side)) ≡ true

-- a call of the list sent the commit c, in a Commit that these groups read so
pub record SentCommit (X : Side) (a groups : List ℕ) (c : Commit) (h : List Entry) : Type 0 where
  pub octets : List ℕ
  pub token : ℕ
  pub sent : Sent X a octets h
  pub reads : read_body groups octets ≡ Some (body.Commit c.group token)
  pub commit : stored (commit_of octets c.group token) ≡ c.octets

-- a Confirm from the other printer is accepted for a run's pair only if an earlier call of it made a Confirm over that same pair
pub record Rightful (own : Side → List ℕ) (h : List Entry) : Type 0 where
  pub right : (X : Side) (e : Entry) (before : List Entry) (address : List ℕ) (time : ℕ) (frame fresh expected : List ℕ) (n : ℕ)
      → Comes e before h → stepped before e ≡ true → e.side ≡ X → e.call ≡ receive address time frame fresh expected 1
      → same_address address (own (other X)) ≡ true
      → read_body (groups_in (table_of before X)) frame ≡ Some (body.Confirm n)
      → (story_of before X (own (other X))).running ≡ true → (story_of before X (own (other X))).stands ≡ true
      → is_accepted (answer_of before e).event ≡ true
      → (octets : List ℕ) × SentOver (other X) (own X) octets (exchanged (story_of before X (own (other X))).pair) before

pub record Needed (own : Side → List ℕ) (h : List Entry) : Type 0 where
  -- no two calls of a printer use the same group and commit with the other printer
  pub once : (e d : Entry) (before sooner : List Entry) (f : Commit) → Comes e before h → Comes d sooner before → d.side ≡ e.side
      → UsesMutually own f before e → ¬ UsesMutually own f sooner d
  -- a Commit from the other printer that forms a pair has a group and commit that an earlier call of it sent to this one
  pub only : (X : Side) (e : Entry) (before : List Entry) (address : List ℕ) (time : ℕ) (frame fresh expected : List ℕ) (verdict group token : ℕ)
      → Comes e before h → stepped before e ≡ true → e.side ≡ X → e.call ≡ receive address time frame fresh expected verdict
      → same_address address (own (other X)) ≡ true
      → read_body (groups_in (table_of before X)) frame ≡ Some (body.Commit group token)
      → forms_pair e.call (answer_of before e) ≡ true
      → SentCommit (other X) (own X) (groups_in (table_of before X)) (record { group = group; octets = stored (commit_of frame group token) }) before
  pub rightful : Rightful own h

-- (b) and (c) of demand 3, each from what it needs
pub record Stronger (own : Side → List ℕ) (h : List Entry) : Type 0 where
  pub agree : Needed own h → (p q : Pair) → (story_of h A (own B)).link ≡ finished p false → (story_of h B (own A)).link ≡ finished q false → q ≡ exchanged p
  pub formed : Rightful own h → (X : Side) (p : Pair) (mark : Bool) → (story_of h X (own (other X))).link ≡ finished p mark
      → Formed (other X) (own X) (exchanged p) h
