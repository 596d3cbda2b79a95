-- The counts of all parts, added up.
use Rattle.std.specs.Prelude.{ℕ, ◌+◌, ◌-◌, ◌^◌, min, List}
use Rattle.bp_trail.specs.declared.totals.Totals.{Totals}
use Rattle.bp_trail.specs.Totals.{no_totals}
use Rattle.bp_core.specs.Counts.{AreCounts}
use Rattle.bp_core.specs.declared.stats.Stats.{Stats}
use Rattle.bp_shared.specs.Sessions.{SessionValue}
use Rattle.bp_parts.specs.Redo.{seen_in}

-- a sum, or the greatest number that there is where it is above that
abbrev pub capped : ℕ → ℕ → ℕ
capped a b = min (a + b) (2 ^ 64 - 1)

abbrev pub both_totals : Totals → Totals → Totals
both_totals a b = record {
  hits = capped a.hits b.hits;
  faults = capped a.faults b.faults;
  evictions = capped a.evictions b.evictions;
  writes = capped a.writes b.writes;
  failed = capped a.failed b.failed;
  refused = capped a.refused b.refused;
  discards = capped a.discards b.discards;
}

abbrev pub both_stats : Stats → Stats → Stats
both_stats a b = record {
  totals = both_totals a.totals b.totals;
  resident = capped a.resident b.resident;
  pinned = capped a.pinned b.pinned;
  unsaved = capped a.unsaved b.unsaved;
  loading = capped a.loading b.loading;
  writing = capped a.writing b.writing;
}

abbrev pub no_stats : Stats
no_stats = record {
  totals = no_totals;
  resident = 0;
  pinned = 0;
  unsaved = 0;
  loading = 0;
  writing = 0;
}

-- the counts of the first so many parts, each of its trail as its session saw it, added up
pub data SumsUp (sessions : List SessionValue) : ℕ → Stats → Type 0 where
  none : SumsUp sessions 0 no_stats
  part : {n : ℕ} {sum : Stats} (own : Stats) → SumsUp sessions n sum
      → AreCounts (seen_in sessions n) own → SumsUp sessions (n + 1) (both_stats sum own)
