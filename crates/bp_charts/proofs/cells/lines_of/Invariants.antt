use Rattle.std.proofs.Common.{take}
use Rattle.bp_charts.specs.Cells.{AreLines}
use Rattle.bp_charts.proofs.cells.lines_of.Given as goal

abbrev pub invariant-loop-which : goal.invariant-loop-which
invariant-loop-which l = AreLines l.cells (take l.which-index l.names) l.lines.items
