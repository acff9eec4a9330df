-- The writer: which octets a frame's parts make, what is answered, and what the lent buffer holds then.
use Rattle.std.specs.Prelude.{List, ◌≡◌, ℕ, eqb, ltb, length, if◌then◌else◌, Option, Some, Result, Ok, Err}
use Rattle.octets.specs.Octets.{put}
use Rattle.groups.specs.Groups.{commit_length, listed}
use Rattle.frame.specs.Frame.{commit_body, token_request_body, group_refusal_body, confirm_body}
use Rattle.frame.specs.declared.Body.{Body}
use Rattle.frame.specs.declared.Body.TheVariants.{Commit, TokenRequest, GroupRefusal, Confirm}
use Rattle.causes.specs.declared.Refusal.TheVariants as why
use Rattle.causes.specs.Causes.{number}
use Rattle.causes.specs.declared.Refusal.{Refusal}

-- a frame's octets, or parts outside the shapes
pub data Drawn : Type 0 where
  Octets : List ℕ → Drawn
  Outside : Drawn

-- a status 0 Commit in a listed group: a token of 0 to 256 octets, and scalar and element of that group's length
unfoldable pub draw_commit : List ℕ → ℕ → List ℕ → List ℕ → Drawn
draw_commit groups group token commit =
    if listed groups group then
    (if ltb 256 (length token) then Outside
    else if eqb (length commit) (commit_length group) then Octets (commit_body group token commit)
    else Outside)
    else Outside

-- a 76: a token of 1 to 256 octets
unfoldable pub draw_token_request : ℕ → List ℕ → Drawn
draw_token_request group token =
    if eqb (length token) 0 then Outside
    else if ltb 256 (length token) then Outside
    else Octets (token_request_body group token)

-- a 77: the group only
unfoldable pub draw_group_refusal : ℕ → Drawn
draw_group_refusal group = Octets (group_refusal_body group)

-- a status 0 Confirm: a value of 32 octets
unfoldable pub draw_confirm : ℕ → List ℕ → Drawn
draw_confirm counter value = if eqb (length value) 32 then Octets (confirm_body counter value) else Outside

-- the parts of a Commit of any status that is written; it has no counter
unfoldable pub draw_commits : List ℕ → ℕ → ℕ → List ℕ → List ℕ → Drawn
draw_commits groups status group token rest =
    if eqb status 0 then draw_commit groups group token rest
    else if eqb status 76 then (if eqb (length rest) 0 then draw_token_request group token else Outside)
    else if eqb status 77 then
    (if eqb (length token) 0 then (if eqb (length rest) 0 then draw_group_refusal group else Outside) else Outside)
    else Outside

-- the parts of a Confirm; it has no group and no token
unfoldable pub draw_confirms : ℕ → ℕ → ℕ → List ℕ → List ℕ → Drawn
draw_confirms status group counter token rest =
    if eqb status 0 then
    (if eqb group 0 then (if eqb (length token) 0 then draw_confirm counter rest else Outside) else Outside)
    else Outside

-- "a frame's parts (a status 0 Commit in a listed group, a 76, a 77 or a status 0 Confirm)"; a part that a shape has none of is 0 or empty
unfoldable pub parts_body : List ℕ → ℕ → ℕ → ℕ → ℕ → List ℕ → List ℕ → Drawn
parts_body groups sequence status group counter token rest =
    if eqb sequence 1 then (if eqb counter 0 then draw_commits groups status group token rest else Outside)
    else if eqb sequence 2 then draw_confirms status group counter token rest
    else Outside

-- what parts in one of the shapes are to a reader whose list has the group
unfoldable pub parts_read : ℕ → ℕ → ℕ → ℕ → ℕ → Option Body
parts_read sequence status group counter token =
    if eqb sequence 1 then
    (if eqb status 0 then Some (Commit group token)
    else if eqb status 76 then Some (TokenRequest group token)
    else Some (GroupRefusal group))
    else Some (Confirm counter)

-- ---- the outcome

-- "answers the length written", or that the parts are outside the shapes, or that the frame is longer than the buffer
unfoldable pub written : Drawn → List ℕ → Result ℕ Refusal
written Outside out = Err why.Body
written (Octets s) out = if ltb (length out) (length s) then Err why.Short else Ok (length s)

-- "leaves octets past the frame untouched"; a refusal leaves the buffer as it was
unfoldable pub leaves : Drawn → List ℕ → List ℕ
leaves Outside out = out
leaves (Octets s) out = if ltb (length out) (length s) then out else put out 0 s

-- the number of the refusal, 0 if there is none: "Body not of the shapes above 7", "Frame to write longer than the buffer 11"
abbrev pub refusal : Result ℕ Refusal → ℕ
refusal (Ok n) = 0
refusal (Err c) = number c

-- the length written, 0 if nothing was
abbrev pub length_of : Result ℕ Refusal → ℕ
length_of (Ok n) = n
length_of (Err c) = 0

-- a writer's whole outcome: its answer and what it leaves of the buffer that it was given
pub record Writes (d : Drawn) (given left : List ℕ) (answer : Result ℕ Refusal) : Type 0 where
  pub answers : answer ≡ written d given
  pub left_as : left ≡ leaves d given
