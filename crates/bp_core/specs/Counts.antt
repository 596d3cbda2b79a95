-- What a core counts of its entries.
use Rattle.std.specs.Prelude.{◌≡◌, ◌<◌, ◌^◌, nat_lt, length}
use Rattle.bp_trail.specs.Trail.{Trail}
use Rattle.bp_trail.specs.Lists.{count}
use Rattle.bp_trail.specs.Passes.{pins, reads_out, writes_out}
use Rattle.bp_trail.specs.Places.{residents}
use Rattle.bp_trail.specs.Saved.{unsaved}
use Rattle.bp_trail.specs.Totals.{totals_of}
use Rattle.bp_core.specs.declared.stats.Stats.{Stats}

-- the totals are those of all entries, where these are fewer than 2^64; and each count of pages is
-- the length of its list
pub record AreCounts (past : Trail) (s : Stats) : Type 0 where
  pub totals : length past < 2 ^ 64 → s.totals ≡ totals_of past
  pub resident : s.resident ≡ length (residents past)
  pub pinned : s.pinned ≡ count (λ p. nat_lt 0 (pins past p)) (residents past)
  pub unsaved : s.unsaved ≡ count (unsaved past) (residents past)
  pub loading : s.loading ≡ length (reads_out past)
  pub writing : s.writing ≡ length (writes_out past)
