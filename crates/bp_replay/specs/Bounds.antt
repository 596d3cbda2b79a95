-- What client 0 has seen of the marks, which the log rows of its script raise.
use Rattle.std.specs.Prelude.{◌≡◌, ℕ, ◌<◌, ◌≤◌, max, List, ◌∷◌, ◌++◌, length, reverse, take, Option, Some, None}
use Rattle.bp_trail.specs.declared.entries.Entry.{Entry}
use Rattle.bp_scripts.specs.declared.rows.Row.{Row}
use Rattle.bp_trail.specs.Parameters.{Parameters}
use Rattle.bp_trail.specs.Trail.{Trail}
use Rattle.bp_trail.specs.Clock.{durable}
use Rattle.bp_trail.specs.Clients.{of_client}
use Rattle.bp_scripts.specs.LogBound.{logged, row_at}
use Rattle.bp_shared.specs.Sessions.{SessionValue}
use Rattle.bp_shared.specs.Telling.{Sees}

-- A trail has at least so many entries of client 0. Up to and with each of the first so many the mark
-- is at most what the rows before the entry's own row had logged, by the ends of the rows' pieces
-- (newest first)
pub record IsBounded (script : List Row) (ends : List ℕ) (count : ℕ) (seen : Trail)
    : Type 0 where
  pub has : count ≤ length (of_client 0 seen)
  pub each : (newer past : Trail) (e : Entry) → seen ≡ newer ++ e ∷ past → e.client ≡ 0
      → length (of_client 0 past) < count
      → durable (e ∷ past)
      ≤ logged (take (row_at (reverse ends) (length (of_client 0 past))) script)

-- what a row does to the mark. Before a log row raises it, the session sees that no mark is above what
-- was raised before; any other row does nothing
abbrev pub RaisesMark : Parameters → Trail → Option ℕ → SessionValue → ℕ → SessionValue → ℕ → Type 0
RaisesMark c start None old raised new after = (new ≡ old) × (after ≡ raised)
RaisesMark c start (Some lsn) old raised new after =
    Sees c start old new × (durable new.seen ≤ raised) × (after ≡ max raised lsn)
