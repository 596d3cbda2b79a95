-- The backward K-distance, by which LRU-K chooses.
use Rattle.std.specs.Prelude.{ℕ, ◌-◌, ◌==◌, nat_lt, Bool, true, false, Option, Some, None, if◌then◌else◌}

-- how far back from t the K-th newest reference is, by its stamp; none, so farther than any, where
-- there are fewer
abbrev pub backward_distance : ℕ → ℕ → Option ℕ
backward_distance t stamp = if stamp == 0 then None else Some (t - stamp)

abbrev pub is_farther : Option ℕ → Option ℕ → Bool
is_farther None None = false
is_farther None (Some near) = true
is_farther (Some far) None = false
is_farther (Some far) (Some near) = nat_lt near far
