-- What is printed of a run.
use Rattle.std.specs.Prelude.{ℕ, List, [], ◌∷◌, ◌++◌, unwrap_or}
use Rattle.bp_trail.specs.declared.entries.Entry.{Entry}
use Rattle.bp_trail.specs.declared.entries.Call.{Call}
use Rattle.bp_scripts.specs.declared.rows.Refused.{Refused}
use Rattle.bp_trail.specs.Event.{ticks}
use Rattle.bp_trail.specs.Trail.{Trail}
use Rattle.bp_trail.specs.Clock.{clock}
use Rattle.bp_trace.specs.Lines.{event_line, refused_line}
use Rattle.bp_trace.specs.Totals.{totals_text}
use Rattle.bp_trail.specs.Totals.{totals_of}

-- the steps by which a call moves the clock
abbrev pub steps_of : Call → ℕ
steps_of call = unwrap_or (ticks call) 0

-- the lines of entries, oldest first, where past stands before them, newest first
unfoldable pub lines_after : Trail → List Entry → List ℕ
lines_after past [] = []
lines_after past (e ∷ later) = event_line (clock past) e ++ lines_after (e ∷ past) later

-- the report of entries, oldest first: their lines, and then their totals
abbrev pub report_text : List Entry → List ℕ
report_text entries = lines_after [] entries ++ totals_text (totals_of entries)

-- the lines of refused rows
unfoldable pub rows_text : List Refused → List ℕ
rows_text [] = []
rows_text (r ∷ rest) = refused_line r ++ rows_text rest
