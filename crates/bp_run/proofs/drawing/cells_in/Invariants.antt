-- The cells so far are those of the lines so far.
use Rattle.std.proofs.Common.{◌≡◌, map, take}
use Rattle.bp_run.specs.Drawing.{cell_of}
use Rattle.bp_run.proofs.drawing.cells_in.Given as goal

abbrev pub invariant-loop-line : goal.invariant-loop-line
invariant-loop-line l = l.cells.items ≡ map cell_of (take l.line-index l.table)
