-- The lines of a report that are kept as its entries come.
use Rattle.std.specs.Prelude.{◌≡◌, ℕ, ◌<◌, ◌^◌, List, [], reverse, take, flat_map, Option, Some, None}
use Rattle.bp_trail.specs.declared.entries.Reply.{Reply}
use Rattle.bp_trail.specs.Trail.{Trail}
use Rattle.bp_trail.specs.Clock.{clock}
use Rattle.bp_trace.specs.declared.printing.front.Front.{Front}
use Rattle.bp_trace.specs.declared.printing.kept.ReportLine.{ReportLine}
use Rattle.bp_trace.specs.declared.printing.kept.ReportLine.TheVariants.{Evict, Discard, Out, Read}
use Rattle.bp_trace.specs.declared.printing.kept.ReportLines.{ReportLines}
use Rattle.bp_trace.specs.Lines.{evict_line, discard_line, out_line, read_line, line_of}
use Rattle.bp_trace.specs.Report.{lines_after}

abbrev pub front_of : Front → List ℕ
front_of front = take front.len front.bytes

-- the text of a line, and of none
abbrev pub text_of : ReportLine → List ℕ
text_of (Evict time page) = evict_line time page
text_of (Discard time page) = discard_line time page
text_of (Out time page) = out_line time page
text_of (Read client page front) = read_line client page (front_of front)

abbrev pub text_if : Option ReportLine → List ℕ
text_if (Some line) = text_of line
text_if None = []

-- as long as the time is less than 2^64, it is kept, and the lines of these entries, newest first
pub record HasLines (past : Trail) (kept : ReportLines) : Type 0 where
  pub time : clock past < 2 ^ 64 → kept.time ≡ clock past
  pub lines :
      clock past < 2 ^ 64 → flat_map text_of kept.lines.items ≡ lines_after [] (reverse past)

abbrev pub HasNoLine : Reply → Type 0
HasNoLine reply = (time client page : ℕ) → line_of time client page reply ≡ []
