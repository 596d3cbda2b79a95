use Rattle.std.proofs.Common.{take}
use Rattle.std.specs.List.{flat_map}
use Rattle.std.specs.Io.KnownBytes.{Appends}
use Rattle.bp_charts.specs.Places.{mark_of}
use Rattle.bp_charts.proofs.places.write_marks.Given as goal

abbrev pub invariant-loop-point : goal.invariant-loop-point
invariant-loop-point g l = Appends (g.W.Write.contents l.initial.writer) (g.W.Write.contents l.writer)
    (flat_map (mark_of l.scale) (take l.point-index l.points))
