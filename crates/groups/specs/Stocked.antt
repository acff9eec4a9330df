-- The fresh commits of a stock, one for each of its groups.
use Rattle.std.specs.Prelude.{List, ℕ}
use Rattle.groups.specs.declared.stocked.Stock.{Stock}
use Rattle.groups.specs.Groups.{fresh_of}

abbrev pub commits_in : Stock → List (List ℕ)
commits_in s = fresh_of s.width s.fresh.now
