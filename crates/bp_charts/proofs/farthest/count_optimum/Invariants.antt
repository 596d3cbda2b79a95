use Rattle.std.proofs.Common.{◌≤◌, drop}
use Rattle.bp_charts.specs.Keys.{keys_of}
use Rattle.bp_charts.proofs.Walk.{Stands}
use Rattle.bp_charts.proofs.farthest.count_optimum.Given as goal

abbrev pub invariant-loop-i : goal.invariant-loop-i
invariant-loop-i l = record {
  stands : Stands l.frames l.references l.i (drop l.i l.references) (keys_of l.held) l.counts;
  hits : l.counts.hits ≤ l.i;
  faults : l.counts.faults ≤ l.i;
  evictions : l.counts.evictions ≤ l.i;
}
