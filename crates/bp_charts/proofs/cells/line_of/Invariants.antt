use Rattle.std.proofs.Common.{◌≡◌, take}
use Rattle.bp_charts.specs.Cells.{points_of}
use Rattle.bp_charts.proofs.cells.line_of.Given as goal

abbrev pub invariant-loop-cell : goal.invariant-loop-cell
invariant-loop-cell l = l.points.items ≡ points_of l.which (take l.cell-index l.cells)
