-- The repeats of one printer's runs with one address, the newest run first.
use Rattle.std.specs.Prelude.{Bool, true, false, List, [], ◌∷◌, ℕ, suc, ◌≤◌}

-- a run's repeats before its pair stands, and after; and the Sync limit of the table that it began in
pub record Tally : Type 0 where
  pub before : ℕ
  pub after : ℕ
  pub limit : ℕ

-- a run that begins
abbrev pub begun : ℕ → Tally
begun limit = record { before = 0; after = 0; limit = limit }

-- one repeat more in the newest run, whose pair stands or not
abbrev pub more : Bool → List Tally → List Tally
more stands [] = []
more false (r ∷ rs) = record { before = suc r.before; after = r.after; limit = r.limit } ∷ rs
more true (r ∷ rs) = record { before = r.before; after = suc r.after; limit = r.limit } ∷ rs

-- the newest run's repeats since it began, or since its pair stands: what Sync counts
abbrev pub latest : Bool → List Tally → ℕ
latest stands [] = 0
latest false (r ∷ rs) = r.before
latest true (r ∷ rs) = r.after

-- a run has at most n repeats before its pair stands and n after
pub record Within (n : ℕ) (r : Tally) : Type 0 where
  pub before : r.before ≤ n
  pub after : r.after ≤ n

-- every run of a list is so
pub data Each (P : Tally → Type 0) : List Tally → Type 0 where
  none : Each P []
  run : {r : Tally} {rs : List Tally} → P r → Each P rs → Each P (r ∷ rs)

-- every run has at most limit + 1 repeats before its pair stands and as many after, the limit being that of the table it began in
abbrev pub AtMost : List Tally → Type 0
AtMost rs = Each (λ r. Within (suc r.limit) r) rs

-- every run began in a table of such a limit
abbrev pub Limited : (ℕ → Type 0) → List Tally → Type 0
Limited P rs = Each (λ r. P r.limit) rs

-- the newest run's limit
abbrev pub newest_limit : List Tally → ℕ
newest_limit [] = 0
newest_limit (r ∷ rs) = r.limit
