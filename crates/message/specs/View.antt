-- What the rules see of a frame: one view of its body, and the message that it gives.
use Rattle.std.specs.Prelude.{Bool, true, false, List, ◌++◌, ℕ, ◌-◌, length, replicate, if◌then◌else◌, Option, Some, None, option_map}
use Rattle.groups.specs.Groups.{width, stored}
use Rattle.frame.specs.Frame.{read_body, token_of, commit_of}
use Rattle.frame.specs.declared.Body.{Body}
use Rattle.frame.specs.declared.Body.TheVariants as body
use Rattle.rules.specs.Message.{Message}
use Rattle.message.specs.declared.View.{View}

-- ---- a body by its numbers

abbrev pub commit_view : ℕ → ℕ → Bool → ℕ → View
commit_view status group listed toklen = record { sequence = 1; status = status; group = group; counter = 0; listed = listed; toklen = toklen }

abbrev pub confirm_view : ℕ → ℕ → ℕ → View
confirm_view sequence status counter = record { sequence = sequence; status = status; group = 0; counter = counter; listed = false; toklen = 0 }

-- each shape; the sequence of a body that is of none is 0, and a reader makes no view of it
abbrev pub view_of : Option Body → View
view_of (Some (body.Commit g n)) = commit_view 0 g true n
view_of (Some (body.Unsupported g)) = commit_view 0 g false 0
view_of (Some (body.TokenRequest g n)) = commit_view 76 g false n
view_of (Some (body.GroupRefusal g)) = commit_view 77 g false 0
view_of (Some (body.OtherCommit s)) = commit_view s 0 false 0
view_of (Some (body.Confirm n)) = confirm_view 2 0 n
view_of (Some (body.OtherConfirm s)) = confirm_view 2 s 0
view_of None = confirm_view 0 0 0

unfoldable pub view : List ℕ → List ℕ → View
view groups frame = view_of (read_body groups frame)

-- the view that a reader hands on
unfoldable pub read_view : List ℕ → List ℕ → Option View
read_view groups frame = option_map (λ b. view_of (Some b)) (read_body groups frame)

-- ---- the message: token and commit as they are stored

-- 256 octets, zero past the token's own
unfoldable pub stored_token : List ℕ → List ℕ
stored_token token = token ++ replicate (256 - length token) 0

-- scalar and element of a supported Commit; no other frame has a commit
unfoldable pub commit_in : List ℕ → Bool → ℕ → ℕ → List ℕ
commit_in frame listed group n = if listed then stored (commit_of frame group n) else replicate width 0

abbrev pub message_of : List ℕ → View → Message
message_of frame v =
    record {
      sequence = v.sequence;
      status = v.status;
      group = v.group;
      counter = v.counter;
      listed = v.listed;
      toklen = v.toklen;
      token = stored_token (token_of frame v.toklen);
      commit = commit_in frame v.listed v.group v.toklen;
    }

-- the message of a frame, where these groups are listed
unfoldable pub message : List ℕ → List ℕ → Message
message groups frame = message_of frame (view groups frame)
