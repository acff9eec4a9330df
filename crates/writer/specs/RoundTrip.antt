-- "What is written reads back; a status 0 Confirm or supported Commit, once read, is written again as the same octets", of the writer's calls; of Confirms just
-- those of 40 octets.
use Rattle.std.specs.Prelude.{◌≡◌, true, ◌&&◌, List, [], ◌⊎◌, ℕ, ◌≤◌, ◌<◌, length, take, drop, if◌then◌else◌, Some, Ok}
use Rattle.octets.specs.Octets.{put}
use Rattle.groups.specs.Groups.{commit_length, listed}
use Rattle.frame.specs.Frame.{read_body, token_of, commit_of, value_of}
use Rattle.frame.specs.declared.Body.TheVariants as body
use Rattle.record.specs.declared.Peer.{Peer}
use Rattle.record.specs.Layout.{groups_of}
use Rattle.table.specs.Table.{decode_table}
use Rattle.rules.specs.Book.{◌is◌}
use Rattle.message.specs.declared.View.{View}
use Rattle.message.specs.View.{view}
use Rattle.causes.specs.declared.Refusal.TheVariants as why
use Rattle.writer.specs.Writer.{LeftOut, refuse_out, writes_parts}

-- a frame's parts, as the reader hands them back and as the writer takes them; rest is scalar and element, or a Confirm's value
pub record Parts : Type 0 where
  pub sequence : ℕ
  pub status : ℕ
  pub group : ℕ
  pub counter : ℕ
  pub token : List ℕ
  pub rest : List ℕ

-- ---- the reader

-- what stands after the token; only a supported Commit and a status 0 Confirm have it
unfoldable pub rest_of : List ℕ → View → List ℕ
rest_of s v =
    if v.listed then commit_of s v.group v.toklen
    else if (v.sequence is 2) && (v.status is 0) then value_of s
    else []

abbrev pub parts_of : List ℕ → View → Parts
parts_of s v = record { sequence = v.sequence; status = v.status; group = v.group; counter = v.counter; token = token_of s v.toklen; rest = rest_of s v }

-- the parts of a body, where these groups are listed
unfoldable pub parts_in : List ℕ → List ℕ → Parts
parts_in groups s = parts_of s (view groups s)

-- the groups that a table lists
abbrev pub groups_in : List ℕ → List ℕ
groups_in t = groups_of (decode_table t).header

-- ---- the writer

abbrev pub writes_from : List ℕ → Parts → List ℕ → LeftOut
writes_from t p out = writes_parts t p.sequence p.status p.group p.counter p.token p.rest out

-- the octets s and no others: they stand first in the buffer, their number is answered, octets past them stay; a buffer too short for them is 11
pub record Copied (s out : List ℕ) (l : LeftOut) : Type 0 where
  pub whole : length s ≤ length out → l ≡ record { answer = Ok (length s); out = put out 0 s }
  pub short : length out < length s → l ≡ refuse_out out why.Short

-- ---- once read, written again

-- the writer makes the same octets of the parts that the reader hands back, whatever the buffer
pub record Again (t s : List ℕ) : Type 0 where
  pub again : (out : List ℕ) → Copied s out (writes_from t (parts_in (groups_in t) s) out)

-- of every body: a supported Commit; also a 76 and a 77
pub record CommitAgain (t s : List ℕ) : Type 0 where
  pub commit : (g n : ℕ) → read_body (groups_in t) s ≡ Some (body.Commit g n) → Again t s
  pub token_request : (g n : ℕ) → read_body (groups_in t) s ≡ Some (body.TokenRequest g n) → Again t s
  pub group_refusal : (g : ℕ) → read_body (groups_in t) s ≡ Some (body.GroupRefusal g) → Again t s

-- a status 0 Confirm: "The writer still writes 40, so only a 40-octet Confirm is rewritten identically"
pub record ConfirmAgain (t s : List ℕ) : Type 0 where
  pub first : (n : ℕ) → read_body (groups_in t) s ≡ Some (body.Confirm n) → (out : List ℕ) → Copied (take 40 s) out (writes_from t (parts_in (groups_in t) s) out)
  pub confirm : (n : ℕ) → read_body (groups_in t) s ≡ Some (body.Confirm n) → length s ≡ 40 → Again t s
  pub only : (n : ℕ) → read_body (groups_in t) s ≡ Some (body.Confirm n) → Again t s → length s ≡ 40

-- ---- what is written reads back

-- a reader that supports a status 0 Commit's group; every other frame is read whatever the list
abbrev pub Supports : List ℕ → Parts → Type 0
Supports groups p = p.sequence ≡ 1 → p.status ≡ 0 → listed groups p.group ≡ true

-- the numbers of a frame that is written: sequence 1 or 2, each of two octets
pub record Numbers (p : Parts) : Type 0 where
  pub sequence : (p.sequence ≡ 1) ⊎ (p.sequence ≡ 2)
  pub status : p.status < 65536
  pub group : p.group < 65536
  pub counter : p.counter < 65536

-- of the m octets written from the table t: each such reader hands back these parts, a reader of the same table too; octets past them stay
pub record Back (t : List ℕ) (p : Parts) (out left : List ℕ) (m : ℕ) : Type 0 where
  pub numbers : Numbers p
  pub parts : (groups : List ℕ) → Supports groups p → parts_in groups (take m left) ≡ p
  pub own : Supports (groups_in t) p
  pub fits : m ≤ length out
  pub past : drop m left ≡ drop m out

-- the parts of a record's Commit
abbrev pub commit_parts : Peer → Parts
commit_parts p =
    record {
      sequence = 1;
      status = 0;
      group = p.run.group;
      counter = 0;
      token = take p.run.toklen p.run.token;
      rest = take (commit_length p.run.group) p.run.own;
    }

-- and of its Confirm: "counter is Sc for a run in Confirmed and 65,535 for a link with no run"
abbrev pub confirm_parts : Peer → List ℕ → Parts
confirm_parts p value =
    record { sequence = 2; status = 0; group = 0; counter = if p.run.state is 2 then p.run.sc else 65535; token = []; rest = value }

unfoldable pub record_parts : Peer → ℕ → List ℕ → Parts
record_parts p sequence value = if sequence is 1 then commit_parts p else confirm_parts p value
