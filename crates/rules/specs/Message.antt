-- A received frame as the rules see it.
use Rattle.std.specs.Prelude.{Bool, List, ℕ}

-- sequence (1 Commit, 2 Confirm), status, group, counter, whether the group is supported, its token and its commit as they are stored. What a frame
-- of its kind does not have is zero.
pub record Message : Type 0 where
  pub sequence : ℕ
  pub status : ℕ
  pub group : ℕ
  pub counter : ℕ
  pub listed : Bool
  pub toklen : ℕ
  pub token : List ℕ
  pub commit : List ℕ
