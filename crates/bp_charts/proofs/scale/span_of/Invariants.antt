use Rattle.std.proofs.Common.{◌≡◌, take}
use Rattle.std.specs.List.{fold}
use Rattle.bp_charts.specs.Scale.{and_line}
use Rattle.bp_charts.proofs.scale.span_of.Given as goal

abbrev pub invariant-loop-line : goal.invariant-loop-line
invariant-loop-line l = l.span ≡ fold and_line l.initial.span (take l.line-index l.lines)
