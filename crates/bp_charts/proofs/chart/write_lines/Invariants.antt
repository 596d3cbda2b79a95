use Rattle.std.proofs.Common.{◌≡◌, ◌++◌, ℕ, List, drop}
use Rattle.std.specs.Io.KnownBytes.{Appends}
use Rattle.bp_charts.specs.Chart.{lines_text}
use Rattle.bp_charts.proofs.chart.write_lines.Given as goal

-- what was written, and the lines that are left, are all lines
abbrev pub invariant-loop-line : goal.invariant-loop-line
invariant-loop-line g l = record {
  count : l.number ≡ l.line-index;
  written : List ℕ;
  appended : Appends (g.W.Write.contents l.initial.writer) (g.W.Write.contents l.writer) written;
  left : written ++ lines_text l.scale l.number (drop l.line-index l.lines) ≡ lines_text l.scale 0 l.lines;
}
