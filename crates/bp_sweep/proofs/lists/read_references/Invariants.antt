use Rattle.std.proofs.Common.{◌+◌, ◌≤◌}
use Rattle.bp_sweep.specs.References.{most_references}
use Rattle.bp_sweep.proofs.Lines.{Reading}
use Rattle.bp_sweep.proofs.lists.read_references.Given as goal

abbrev pub invariant-loop-line : goal.invariant-loop-line
invariant-loop-line g l = record {
  reading : Reading (g.I.Read.remaining l.initial.reader) (g.I.Read.remaining l.reader) l.line l.gathered;
  few : l.line ≤ most_references + 1;
}
