use Rattle.std.proofs.Common.{◌≡◌, take}
use Rattle.bp_sweep.specs.Sweeping.{AreCells}
use Rattle.bp_sweep.proofs.cells.count_cells.Given as goal

abbrev pub invariant-loop-plan : goal.invariant-loop-plan
invariant-loop-plan g l = record {
  cells : AreCells l.references (take l.plan-index l.plans) l.lines.items;
  cell : l.cell ≡ l.plan-index;
}
