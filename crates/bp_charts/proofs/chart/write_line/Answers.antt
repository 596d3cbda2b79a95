use Rattle.std.proofs.Common.{codes, ◌++◌}
use Rattle.std.specs.List.{flat_map}
use Rattle.std.specs.Io.KnownBytes.{Appends}
use Rattle.bp_charts.specs.Places.{stroke_of, mark_of}
use Rattle.bp_charts.specs.Labels.{style_text, legend_text}
use Rattle.bp_charts.specs.Chart.{line_text}
use Rattle.bp_charts.proofs.Writes.{appends_next}
use Rattle.bp_charts.proofs.chart.write_line.Goals as goal

pub returns : goal.returns
unfolding line_text
returns g c =
    let w = g.W.Write.contents in
    let r = c.write_legend.result in
    let all = w c.write_legend.new.writer in
    let s = c.args.scale.now in
    let line = c.args.line.now in
    let points = line.points.items in
    let style = style_text line.which c.args.number in
    let begin = codes "<polyline points='" in
    let stroke = flat_map (stroke_of s) points in
    let end = codes "'/>\n" in
    let marks = flat_map (mark_of s) points in
    let legend = legend_text line.which c.args.number in
    let through : Appends (w c.write_text.new.writer) (w c.write_places.new.writer) stroke = rw (← c.as_slice-points.ensures.value) c.in_ok-write_places.ensures in
    let marked : Appends (w c.write_text-2.new.writer) (w c.write_marks.new.writer) marks = rw (← c.as_slice-points.ensures.value) c.in_ok-write_marks.ensures in
    appends_next r (w c.args.writer.now) (w c.write_style.new.writer) all style (begin ++ (stroke ++ (end ++ (marks ++ legend)))) c.in_ok-write_style.ensures
    (appends_next r (w c.write_style.new.writer) (w c.write_text.new.writer) all begin (stroke ++ (end ++ (marks ++ legend))) c.in_ok-write_text.ensures
    (appends_next r (w c.write_text.new.writer) (w c.write_places.new.writer) all stroke (end ++ (marks ++ legend)) through
    (appends_next r (w c.write_places.new.writer) (w c.write_text-2.new.writer) all end (marks ++ legend) c.in_ok-write_text-2.ensures
    (appends_next r (w c.write_text-2.new.writer) (w c.write_marks.new.writer) all marks legend marked c.write_legend.ensures))))
