-- What is printed of a run that is told piece by piece.
use Rattle.std.specs.Prelude.{ℕ, ◌+◌, ◌^◌, ◌≤◌, ◌<◌, length, List, [], ◌∷◌, ◌++◌}
use Rattle.bp_trail.specs.declared.entries.Entry.{Entry}
use Rattle.bp_trail.specs.declared.totals.Totals.{Totals}
use Rattle.bp_trace.specs.declared.printing.pieces.ReportRun.{ReportRun}
use Rattle.bp_trace.specs.Lines.{event_line}
use Rattle.bp_trace.specs.Totals.{totals_text}
use Rattle.bp_trail.specs.Totals.{no_totals, counted}
use Rattle.bp_trace.specs.Report.{steps_of}

-- the lines of entries, oldest first, from this time on
unfoldable pub lines_from : ℕ → List Entry → List ℕ
lines_from time [] = []
lines_from time (e ∷ later) = event_line time e ++ lines_from (time + steps_of e.call) later

-- what a report has taken in: its time, how many entries, and their totals
pub record Taken : Type 0 where
  pub time : ℕ
  pub entries : ℕ
  pub totals : Totals

abbrev pub none_taken : Taken
none_taken = record { time = 1; entries = 0; totals = no_totals }

abbrev pub and_one : Entry → Taken → Taken
and_one e taken =
    record {
      time = taken.time + steps_of e.call;
      entries = taken.entries + 1;
      totals = counted e.reply taken.totals;
    }

unfoldable pub and_taken : Taken → List Entry → Taken
and_taken taken [] = taken
and_taken taken (e ∷ later) = and_taken (and_one e taken) later

-- with these entries the ticks sum to less than 2^62, and there are fewer than 2^64 entries
abbrev pub MayTake : Taken → List Entry → Type 0
MayTake taken entries =
    ((and_taken taken entries).time ≤ 2 ^ 62) × (taken.entries + length entries < 2 ^ 64)

-- no more than these entries was taken in: what may be taken in after them may be taken in then
abbrev pub TakesNoMore : Taken → List Entry → Taken → Type 0
TakesNoMore old entries new =
    (new.time ≤ (and_taken old entries).time) × (new.entries ≤ old.entries + length entries)

abbrev pub taken_by : ReportRun → Taken
taken_by run = record { time = run.time; entries = run.entries; totals = run.totals }

-- the lines of one piece after the other, and then the totals of all
unfoldable pub text_of_pieces : Taken → List (List Entry) → List ℕ
text_of_pieces taken [] = totals_text taken.totals
text_of_pieces taken (piece ∷ later) =
    lines_from taken.time piece ++ text_of_pieces (and_taken taken piece) later

-- the pieces, oldest first, in one list
abbrev pub joined : List (List Entry) → List Entry
joined [] = []
joined (piece ∷ later) = piece ++ joined later
