-- How high totals may be.
use Rattle.std.specs.Prelude.{ℕ, ◌≤◌}
use Rattle.bp_trail.specs.declared.totals.Totals.{Totals}

-- no total is above the number of entries
abbrev pub AreWithin : ℕ → Totals → Type 0
AreWithin entries t =
    (t.hits ≤ entries) × (t.faults ≤ entries) × (t.evictions ≤ entries) × (t.writes ≤ entries)
    × (t.failed ≤ entries) × (t.refused ≤ entries) × (t.discards ≤ entries)
