-- "The frames in an answer are sent to its address as the writer makes them from the table just left": that the writer can, and that it reads back.
use Rattle.std.specs.Prelude.{◌≡◌, true, List, [], ℕ, ◌≤◌, length, take, Some}
use Rattle.groups.specs.Groups.{listed, commit_length}
use Rattle.frame.specs.Frame.{read_body, token_of, commit_of, value_of, commit_body, token_request_body, group_refusal_body, confirm_body}
use Rattle.frame.specs.Writing.{Octets}
use Rattle.frame.specs.declared.Body.TheVariants as body
use Rattle.table.specs.Table.{decode_table, look}
use Rattle.rules.specs.declared.Frame.{Frame}
use Rattle.rules.specs.declared.Frames.{Frames}
use Rattle.rules.specs.declared.Frames.TheVariants.{One, Two}
use Rattle.rules.specs.declared.Frames.TheVariants as frames
use Rattle.rules.specs.Book.{commit_frame, token_request_frame, group_refusal_frame, confirm_frame}
use Rattle.writer.specs.Writer.{draws, writes_parts, writes_record}

-- the address's Commit: its record's token and own commit, written whatever the value, and read back by every list that has the group
pub record CommitWritten (t a : List ℕ) (g : ℕ) : Type 0 where
  pub token : List ℕ
  pub commit : List ℕ
  pub token_is : token ≡ take (look (decode_table t) a).run.toklen (look (decode_table t) a).run.token
  pub commit_is : commit ≡ take (commit_length g) (look (decode_table t) a).run.own
  pub writes : (value out : List ℕ) → writes_record t a 1 value out ≡ draws (Octets (commit_body g token commit)) out
  pub reads : (gs : List ℕ) → listed gs g ≡ true → read_body gs (commit_body g token commit) ≡ Some (body.Commit g (length token))
  pub token_back : token_of (commit_body g token commit) (length token) ≡ token
  pub commit_back : commit_of (commit_body g token commit) g (length token) ≡ commit

-- the address's Confirm, with whatever value of 32 octets it is handed
pub record ConfirmWritten (t a : List ℕ) (n : ℕ) : Type 0 where
  pub writes : (value out : List ℕ) → length value ≡ 32 → writes_record t a 2 value out ≡ draws (Octets (confirm_body n value)) out
  pub reads : (gs value : List ℕ) → length value ≡ 32 → read_body gs (confirm_body n value) ≡ Some (body.Confirm n)
  pub value_back : (value : List ℕ) → length value ≡ 32 → value_of (confirm_body n value) ≡ value

-- a 76 from its parts, with whatever token of 1 to 256 octets
pub record RequestWritten (t : List ℕ) (g : ℕ) : Type 0 where
  pub writes : (token out : List ℕ) → 1 ≤ length token → length token ≤ 256 → writes_parts t 1 76 g 0 token [] out ≡ draws (Octets (token_request_body g token)) out
  pub reads : (gs token : List ℕ) → 1 ≤ length token → length token ≤ 256 → read_body gs (token_request_body g token) ≡ Some (body.TokenRequest g (length token))
  pub token_back : (token : List ℕ) → token_of (token_request_body g token) (length token) ≡ token

-- a 77 from its parts
pub record RefusalWritten (t : List ℕ) (g : ℕ) : Type 0 where
  pub writes : (out : List ℕ) → writes_parts t 1 77 g 0 [] [] out ≡ draws (Octets (group_refusal_body g)) out
  pub reads : (gs : List ℕ) → read_body gs (group_refusal_body g) ≡ Some (body.GroupRefusal g)

-- a frame of an answer about the address a that leaves the table t
pub data Writable (t a : List ℕ) : Frame → Type 0 where
  as_commit : {g : ℕ} → CommitWritten t a g → Writable t a (commit_frame g)
  as_confirm : {n : ℕ} → ConfirmWritten t a n → Writable t a (confirm_frame n)
  as_request : {g : ℕ} → RequestWritten t g → Writable t a (token_request_frame g)
  as_refusal : {g : ℕ} → RefusalWritten t g → Writable t a (group_refusal_frame g)

-- every frame of an answer
pub data Writables (t a : List ℕ) : Frames → Type 0 where
  write_none : Writables t a frames.None
  write_one : {x : Frame} → Writable t a x → Writables t a (One x)
  write_two : {x y : Frame} → Writable t a x → Writable t a y → Writables t a (Two x y)
