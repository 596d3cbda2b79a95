use Rattle.std.proofs.Common.{get_or}
use Rattle.std.specs.Io.KnownBytes.{Appends}
use Rattle.std.proofs.KnownBytes.{Appends-nil}
use Rattle.bp_charts.specs.declared.curves.Point.{Point}
use Rattle.bp_charts.specs.Places.{stroke_of}
use Rattle.bp_charts.proofs.Writes.{appends_element}
use Rattle.bp_charts.proofs.places.write_places.Goals as goal

pub loop-point-init : goal.loop-point-init
loop-point-init g c = Appends-nil (g.W.Write.contents c.args.writer.now)

pub loop-point-preserved : goal.loop-point-preserved
loop-point-preserved g c =
    let w = g.W.Write.contents in
    let i = c.loop-point.point-index in
    let points = c.args.points.now in
    let none : Point = record { frames = 0; hits = 0; fixes = 0 } in
    let s = c.args.scale.now in
    let here : Appends (w c.loop-point.writer) (w c.write_place.new.writer) (stroke_of s (get_or points i none)) = rw (← c.place_of.ensures) c.in_ok-write_place.ensures in
    appends_element (stroke_of s) (w c.args.writer.now) (w c.loop-point.writer) (w c.write_place.new.writer) points i none c.loop-point-test.true c.loop-point.invariant here
