use Rattle.std.proofs.Common.{◌≡◌, take}
use Rattle.std.specs.List.{fold}
use Rattle.bp_charts.specs.Scale.{and_point}
use Rattle.bp_charts.proofs.scale.widen.Given as goal

abbrev pub invariant-loop-point : goal.invariant-loop-point
invariant-loop-point l = l.wide ≡ fold and_point l.initial.wide (take l.point-index l.points)
