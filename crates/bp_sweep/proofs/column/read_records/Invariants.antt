use Rattle.std.proofs.Common.{◌+◌, ◌≤◌}
use Rattle.bp_sweep.specs.References.{most_references}
use Rattle.bp_sweep.proofs.Columns.{Reading}
use Rattle.bp_sweep.proofs.column.read_records.Given as goal

abbrev pub invariant-loop-line : goal.invariant-loop-line
invariant-loop-line g l = record {
  reading : Reading g.R.Read.remaining l.column (g.R.Read.remaining l.fn.reader) l.records l.line l.gathered;
  few : l.line ≤ most_references + 2;
}
