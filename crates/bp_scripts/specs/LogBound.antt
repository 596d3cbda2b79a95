-- No mark is made before the log rows of client 0 allow it. A trail and the ends of its pieces are
-- newest first, as in `Follows`; a script is in order.
use Rattle.std.specs.Prelude.{◌≡◌, ℕ, suc, ◌≤◌, max, Bool, true, false, nat_le, if◌then◌else◌, List, [], ◌∷◌, length, take, reverse, filter_map, Option, Some, None}
use Rattle.bp_trail.specs.declared.entries.Entry.{Entry}
use Rattle.bp_trail.specs.declared.entries.Call.{Call}
use Rattle.bp_trail.specs.declared.entries.Call.TheVariants.{Unfix}
use Rattle.bp_scripts.specs.declared.rows.Row.{Row}
use Rattle.bp_scripts.specs.declared.rows.Step.{Step}
use Rattle.bp_scripts.specs.declared.rows.Step.TheVariants.{Log}
use Rattle.bp_trail.specs.Lists.{greatest, EachEntry}
use Rattle.bp_trail.specs.Trail.{Trail}
use Rattle.bp_trail.specs.Clock.{durable}
use Rattle.bp_trail.specs.Clients.{of_client}

abbrev pub is_unfix : Call → Bool
is_unfix (Unfix pass page) = true
is_unfix _ = false

abbrev pub log_of : Step → Option ℕ
log_of (Log lsn) = Some lsn
log_of _ = None

-- the greatest LSN of the log rows, or 0
abbrev pub logged : List Row → ℕ
logged rows = greatest (filter_map (λ row. log_of row.step) rows)

-- the place in its script of the row whose piece has the entry at this place of the list: so many
-- pieces end before that entry. Here the ends are in order
abbrev pub row_at : List ℕ → ℕ → ℕ
row_at [] place = 0
row_at (end ∷ ends) place = if nat_le end place then suc (row_at ends place) else 0

-- up to and with an entry of client 0 that is no unfix, the mark is at most what the rows before
-- the entry's own row had logged
abbrev pub EntryWithinLog : List Row → List ℕ → Trail → Entry → Type 0
EntryWithinLog script ends past e =
    e.client ≡ 0 → is_unfix e.call ≡ false
    → durable (e ∷ past) ≤ logged (take (row_at (reverse ends) (length (of_client 0 past))) script)

-- the script is that of client 0, and its entries are cut into the pieces of the rows by these
-- ends, those of `FollowsBy`
pub record IsWithinLog (script : List Row) (ends : List ℕ) (trail : Trail) : Type 0 where
  pub each : EachEntry (EntryWithinLog script ends) trail
  pub whole : durable trail ≤ logged script

-- the greater of a number and of one that may be there
abbrev pub at_least : Option ℕ → ℕ → ℕ
at_least None n = n
at_least (Some m) n = max m n
