-- 'Frame bodies': the shapes of Authentication frame bodies, as a reader takes them apart and as a writer makes them.
use Rattle.std.specs.Prelude.{Bool, true, false, List, [], ◌∷◌, ◌++◌, ℕ, zero, suc, ◌+◌, ◌-◌, eqb, ltb, length, drop, if◌then◌else◌, Option, Some, None}
use Rattle.octets.specs.Octets.{part, num, oct}
use Rattle.groups.specs.Groups.{scalar_length, element_length, commit_length, listed}
use Rattle.frame.specs.declared.Field.{Field}
use Rattle.frame.specs.declared.Head.{Head}
use Rattle.frame.specs.declared.Body.{Body}
use Rattle.frame.specs.declared.Body.TheVariants.{Commit, Unsupported, TokenRequest, GroupRefusal, OtherCommit, Confirm, OtherConfirm}

-- a field of two octets
abbrev pub field : List ℕ → ℕ → ℕ
field s at = num (part s at 2)

-- "A frame reader carries the received octets and the offset reached": a field, and the offset behind it
abbrev pub field_at : List ℕ → ℕ → Field
field_at s at = record { number = field s at; reached = at + 2 }

-- "Algorithm (2 octets, 3), sequence (2; 1 Commit, 2 Confirm), status (2), then:" group or counter (2)
abbrev pub algorithm_of : List ℕ → ℕ
algorithm_of s = field s 0

abbrev pub sequence_of : List ℕ → ℕ
sequence_of s = field s 2

abbrev pub status_of : List ℕ → ℕ
status_of s = field s 4

-- the three numbers that every body starts with, and the offset behind them
abbrev pub head_of : List ℕ → Head
head_of s = record { algorithm = algorithm_of s; sequence = sequence_of s; status = status_of s; reached = 6 }

abbrev pub group_of : List ℕ → ℕ
group_of s = field s 6

abbrev pub counter_of : List ℕ → ℕ
counter_of s = field s 6

-- "Commit, status 0: group (2), token (0 to 256 octets), scalar, element. The token is what the length leaves over." In a listed group.
unfoldable pub read_listed : ℕ → List ℕ → Option Body
read_listed group s =
    if ltb (length s) (8 + commit_length group) then None
    else if ltb 256 (length s - (8 + commit_length group)) then None
    else Some (Commit group (length s - (8 + commit_length group)))

-- "Supported means listed in the table. A status 0 Commit in any other group needs 8 octets or more; its rest is not looked at."
unfoldable pub read_offer : List ℕ → List ℕ → Option Body
read_offer groups s =
    if ltb (length s) 8 then None
    else if listed groups (group_of s) then read_listed (group_of s) s
    else Some (Unsupported (group_of s))

-- "Status 76: group, token of 1 to 256."
unfoldable pub read_token_request : List ℕ → Option Body
read_token_request s =
    if ltb (length s) 9 then None
    else if ltb 264 (length s) then None
    else Some (TokenRequest (group_of s) (length s - 8))

-- "Status 77: group only, total 8."
unfoldable pub read_group_refusal : List ℕ → Option Body
read_group_refusal s = if eqb (length s) 8 then Some (GroupRefusal (group_of s)) else None

-- Commit. "Any other status: the rest is not looked at."
unfoldable pub read_commit : List ℕ → List ℕ → Option Body
read_commit groups s =
    if eqb (status_of s) 0 then read_offer groups s
    else if eqb (status_of s) 76 then read_token_request s
    else if eqb (status_of s) 77 then read_group_refusal s
    else Some (OtherCommit (status_of s))

-- What may follow a Confirm's 40 octets: "identifier octet, length octet, contents, repeated to the end". Here n octets of contents come first; a part that
-- ends within them, or behind an identifier, is cut.
unfoldable pub whole_after : ℕ → List ℕ → Bool
whole_after zero [] = true
whole_after (suc n) [] = false
whole_after (suc n) (octet ∷ rest) = whole_after n rest
whole_after zero (identifier ∷ []) = false
whole_after zero (identifier ∷ size ∷ rest) = whole_after size rest

-- "any run of whole elements"
unfoldable pub whole_elements : List ℕ → Bool
whole_elements s = whole_after 0 s

-- what follows a Confirm's 40 octets: "hands the trailing part back"
unfoldable pub elements_of : List ℕ → List ℕ
elements_of s = drop 40 s

-- "Confirm, status 0: counter (2), value (32), total 40." "The reading of such a Confirm now takes 40 octets and any run of whole elements. A cut element is
-- refused as 7." "A Confirm with nonzero status: the rest is not looked at."
unfoldable pub read_confirm : List ℕ → Option Body
read_confirm s =
    if eqb (status_of s) 0 then
    (if ltb (length s) 40 then None
    else if whole_elements (elements_of s) then Some (Confirm (counter_of s))
    else None)
    else Some (OtherConfirm (status_of s))

-- "A body is 6 to 2,304 octets", a Confirm with elements too: "2,304 octets in all at most". Anything not of these shapes is malformed.
unfoldable pub read_body : List ℕ → List ℕ → Option Body
read_body groups s =
    if ltb (length s) 6 then None
    else if ltb 2304 (length s) then None
    else if eqb (algorithm_of s) 3 then
    (if eqb (sequence_of s) 1 then read_commit groups s
    else if eqb (sequence_of s) 2 then read_confirm s
    else None)
    else None

-- ---- the parts of a body that was read

-- "the token is handed back as a part of the received frame": it stands at 8
unfoldable pub token_of : List ℕ → ℕ → List ℕ
token_of s token = part s 8 token

-- the scalar stands after the token, and the element after the scalar
unfoldable pub scalar_of : List ℕ → ℕ → ℕ → List ℕ
scalar_of s group token = part s (8 + token) (scalar_length group)

unfoldable pub element_of : List ℕ → ℕ → ℕ → List ℕ
element_of s group token = part s (8 + token + scalar_length group) (element_length group)

-- "A commit is scalar then element."
unfoldable pub commit_of : List ℕ → ℕ → ℕ → List ℕ
commit_of s group token = scalar_of s group token ++ element_of s group token

-- a Confirm's value stands at 8
unfoldable pub value_of : List ℕ → List ℕ
value_of s = part s 8 32

-- a status 0 Commit, in a listed group or in any other
abbrev pub is_offer : Option Body → Bool
is_offer (Some (Commit g t)) = true
is_offer (Some (Unsupported g)) = true
is_offer (Some (TokenRequest g t)) = false
is_offer (Some (GroupRefusal g)) = false
is_offer (Some (OtherCommit s)) = false
is_offer (Some (Confirm n)) = false
is_offer (Some (OtherConfirm s)) = false
is_offer None = false

-- ---- the octets of a body

-- the 8 octets of algorithm, sequence, status, and group or counter
unfoldable pub head : ℕ → ℕ → ℕ → List ℕ
head sequence status third = oct 2 3 ++ (oct 2 sequence ++ (oct 2 status ++ oct 2 third))

-- then a token and the rest, either of which may be empty
unfoldable pub body : ℕ → ℕ → ℕ → List ℕ → List ℕ → List ℕ
body sequence status third token rest = head sequence status third ++ (token ++ rest)

-- Commit, status 0; commit is scalar then element
unfoldable pub commit_body : ℕ → List ℕ → List ℕ → List ℕ
commit_body group token commit = body 1 0 group token commit

-- status 76
unfoldable pub token_request_body : ℕ → List ℕ → List ℕ
token_request_body group token = body 1 76 group token []

-- status 77
unfoldable pub group_refusal_body : ℕ → List ℕ
group_refusal_body group = body 1 77 group [] []

-- Confirm, status 0
unfoldable pub confirm_body : ℕ → List ℕ → List ℕ
confirm_body counter value = body 2 0 counter [] value
