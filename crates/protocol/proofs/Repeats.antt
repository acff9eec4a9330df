-- Where a repeat is made only while Sync, the repeats since the run began or its pair stands, is at most the run's limit, no run has more than its
-- limit + 1 repeats before its pair stands, nor after.
use mathlib.Core.Bool.{Bool, true, false}
use mathlib.Core.List.{List, [], ◌∷◌}
use Prim.Native.Nat.{ℕ, suc, ◌≤◌}
use native.Mathlib.Omega.{arith}
use Rattle.protocol.specs.Repeats.{Tally, begun, more, latest, Within, Each, none, run, AtMost, Limited}

-- a run begins
pub begun-at-most : (limit : ℕ) (rs : List Tally) → AtMost rs → AtMost (begun limit ∷ rs)
begun-at-most limit rs h = run {r = begun limit} (record { before = omega arith; after = omega arith }) h

-- a repeat
pub more-at-most : (stands : Bool) (r : Tally) (rs : List Tally) → latest stands (r ∷ rs) ≤ r.limit → AtMost (r ∷ rs) → AtMost (more stands (r ∷ rs))
more-at-most false r rs l (run w h) = let m : suc r.before ≤ suc r.limit = omega arith in run (record { before = m; after = w.after }) h
more-at-most true r rs l (run w h) = let m : suc r.after ≤ suc r.limit = omega arith in run (record { before = w.before; after = m }) h

-- a repeat leaves the run its limit
pub more-limited : (P : ℕ → Type 0) (stands : Bool) (rs : List Tally) → Limited P rs → Limited P (more stands rs)
more-limited P stands [] none = none
more-limited P false (r ∷ rs) (run e h) = run e h
more-limited P true (r ∷ rs) (run e h) = run e h

-- what follows for each run
pub each-by : {P Q : Tally → Type 0} {rs : List Tally} → ((r : Tally) → P r → Q r) → Each P rs → Each Q rs
each-by f none = none
each-by f (run {r} p h) = run (f r p) (each-by f h)

-- where every run's limit is n at most, none has more than n + 1 repeats before its pair stands, nor after
pub limited-within : (n : ℕ) (rs : List Tally) → Limited (λ m. m ≤ n) rs → AtMost rs → Each (Within (suc n)) rs
limited-within n [] none none = none
limited-within n (r ∷ rs) (run e h) (run w k) = run {r = r} (record { before = omega (arith, e, w.before); after = omega (arith, e, w.after) }) (limited-within n rs h k)
