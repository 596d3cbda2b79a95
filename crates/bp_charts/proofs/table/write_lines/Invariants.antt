use Rattle.std.proofs.Common.{◌≡◌, ◌++◌, ℕ, List, drop}
use Rattle.std.specs.Io.KnownBytes.{Appends}
use Rattle.bp_charts.specs.Table.{lines_text}
use Rattle.bp_charts.proofs.table.write_lines.Given as goal

abbrev pub invariant-loop-line : goal.invariant-loop-line
invariant-loop-line g l = record {
  written : List ℕ;
  appended : Appends (g.W.Write.contents l.initial.out) (g.W.Write.contents l.out) written;
  left : written ++ lines_text (drop l.line-index l.lines) ≡ lines_text l.lines;
}
