use Rattle.std.proofs.Common.{◌≡◌, ◌++◌, ℕ, List, drop}
use Rattle.std.specs.Io.KnownBytes.{Appends}
use Rattle.bp_trace.specs.Report.{rows_text}
use Rattle.bp_trace.proofs.printing.report_rows.Given as goal

abbrev pub invariant-loop-refused : goal.invariant-loop-refused
invariant-loop-refused g l = record {
  written : List ℕ;
  appended : Appends (g.W.Write.contents l.initial.writer) (g.W.Write.contents l.writer) written;
  left : written ++ rows_text (drop l.refused-index l.rows) ≡ rows_text l.rows;
}
