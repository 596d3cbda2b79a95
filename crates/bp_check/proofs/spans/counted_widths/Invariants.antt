use Rattle.std.proofs.Common.{◌≡◌, ◌≤◌, ◌*◌, ◌^◌, map, reverse, List}
use Rattle.bp_references.specs.Burst.{Burst}
use Rattle.bp_references.specs.Stamp as stamp
use Rattle.bp_check.specs.Spans.{span}
use Rattle.bp_check.proofs.spans.counted_widths.Given as goal

abbrev pub invariant-loop-newer : goal.invariant-loop-newer
invariant-loop-newer l = record {
  is : (all : List Burst) → reverse l.known ≡ map span all → l.counted ≡ stamp.counted_widths all l.newer;
  small : l.counted ≤ l.newer * 2 ^ 64;
}
