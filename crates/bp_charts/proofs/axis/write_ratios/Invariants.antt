use Rattle.std.specs.Io.KnownBytes.{Appends}
use Rattle.bp_charts.specs.Axis.{ratio_lines_text}
use Rattle.bp_charts.proofs.axis.write_ratios.Given as goal

abbrev pub invariant-loop-line : goal.invariant-loop-line
invariant-loop-line g l = Appends (g.W.Write.contents l.initial.writer) (g.W.Write.contents l.writer) (ratio_lines_text l.scale l.line)
