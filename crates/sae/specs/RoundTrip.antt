-- "What is written reads back; a status 0 Confirm or supported Commit, once read, is written again as the same octets", through the 20 octets of parts.
use Rattle.std.specs.Prelude.{◌≡◌, true, List, [], ℕ, ◌≤◌, length, take, if◌then◌else◌, Some}
use Rattle.octets.specs.Octets.{part, put, num}
use Rattle.groups.specs.Groups.{commit_length}
use Rattle.frame.specs.Frame.{elements_of, read_body}
use Rattle.frame.specs.declared.Body.TheVariants as body
use Rattle.table.specs.Table.{sound}
use Rattle.rules.specs.Book.{◌is◌}
use Rattle.writer.specs.RoundTrip.{Parts, parts_in, groups_in, writes_from, Supports}
use Rattle.sae.specs.Interface.{Reads, Writes}

-- scalar and element by their group's length, or a Confirm's value of 32 octets; offset 0 is neither
unfoldable pub rest_from : List ℕ → ℕ → ℕ → ℕ → List ℕ
rest_from s at sequence group = if at is 0 then [] else part s at (if sequence is 1 then commit_length group else 32)

-- octets 8 to 15 point out a token in a Commit; what follows a Confirm is no part that a writer takes
unfoldable pub token_from : List ℕ → ℕ → ℕ → ℕ → List ℕ
token_from s at n sequence = if sequence is 1 then part s at n else []

-- the parts that the 20 octets x point out in the body s
unfoldable pub pointed_out : List ℕ → List ℕ → Parts
pointed_out x s =
    record {
      sequence = num (part x 0 2);
      status = num (part x 2 2);
      group = num (part x 4 2);
      counter = num (part x 6 2);
      token = token_from s (num (part x 8 4)) (num (part x 12 4)) (num (part x 0 2));
      rest = rest_from s (num (part x 16 4)) (num (part x 0 2)) (num (part x 4 2));
    }

-- the trailing part of a status 0 Confirm, also where it is empty: octets 8 to 11 are 40, 12 to 15 its length, and they point it out in the body
pub record PointsBehind (s x : List ℕ) : Type 0 where
  pub at : num (part x 8 4) ≡ 40
  pub long : num (part x 12 4) ≡ length (elements_of s)
  pub back : part s (num (part x 8 4)) (num (part x 12 4)) ≡ elements_of s

-- what the reader of the table t returned 0 and x for
pub record Points (t s x : List ℕ) : Type 0 where
  pub sound : sound t ≡ true
  pub parts : pointed_out x s ≡ parts_in (groups_in t) s
  pub behind : (n : ℕ) → read_body (groups_in t) s ≡ Some (body.Confirm n) → PointsBehind s x

-- the writer, handed what x points out in s and room for u, returns 0, the length of u and the octets of u; octets past them stay
pub record Same (u out : List ℕ) (r : ℕ) (left : List ℕ) (written : ℕ) : Type 0 where
  pub returns : r ≡ 0
  pub leaves : left ≡ put out 0 u
  pub counts : written ≡ length u

pub record WritesAs (t s x u : List ℕ) : Type 0 where
  pub made : (out left : List ℕ) (r written given : ℕ) → length u ≤ length out
      → Writes r left written given (writes_from t (pointed_out x s) out) → Same u out r left written

-- a status 0 Confirm: "The writer still writes 40, so only a 40-octet Confirm is rewritten identically"
pub record ConfirmWritten (t s x : List ℕ) : Type 0 where
  pub first : WritesAs t s x (take 40 s)
  pub same : length s ≡ 40 → WritesAs t s x s
  pub only : WritesAs t s x s → length s ≡ 40

-- of what a writer returned 0 and m for: the reader of any sound table u that supports it returns 0 and points out the same parts
pub record ReadsBack (p : Parts) (left : List ℕ) (m : ℕ) : Type 0 where
  pub back : (u x given : List ℕ) (r : ℕ) → sound u ≡ true → Supports (groups_in u) p
      → Reads r x given u (take m left) → (r ≡ 0) × (pointed_out x (take m left) ≡ p)
