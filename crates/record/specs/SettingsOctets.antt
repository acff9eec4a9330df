-- The settings as C hands them over, 16 octets: 0 group count; 1 zero; 2–3, 4–5 and 6–7 the groups; 8–9 threshold; 10–11 first period; 12 Sync limit;
-- 13–15 zero. Every field is little-endian.
use Rattle.std.specs.Prelude.{Bool, ◌&&◌, List, [], ◌∷◌, ℕ}
use Rattle.octets.specs.Octets.{part, num, all_zero}
use Rattle.record.specs.declared.Settings.{Settings}

unfoldable pub settings_of : List ℕ → Settings
settings_of s =
    record {
      count = num (part s 0 1);
      groups = num (part s 2 2) ∷ num (part s 4 2) ∷ num (part s 6 2) ∷ [];
      threshold = num (part s 8 2);
      period = num (part s 10 2);
      limit = num (part s 12 1);
    }

-- the reserved octets, 1 and 13–15, are zero
unfoldable pub reserved_zero : List ℕ → Bool
reserved_zero s = all_zero (part s 1 1) && all_zero (part s 13 3)
