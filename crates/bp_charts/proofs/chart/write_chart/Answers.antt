use Rattle.std.proofs.Common.{◌+◌, ◌++◌, OnOk, codes, subst}
use Rattle.std.specs.Io.KnownBytes.{Appends}
use Rattle.bp_charts.specs.declared.fixed.TheConstants.{HEAD}
use Rattle.bp_charts.specs.Axis.{last_line, ratio_lines_text, ticks_text}
use Rattle.bp_charts.specs.Chart.{axes_text, chart_on, lines_text}
use Rattle.bp_charts.proofs.Writes.{appends_next}
use Rattle.bp_charts.proofs.chart.write_chart.Goals as goal

pub returns : goal.returns
unfolding chart_on
returns g c =
    let w = g.W.Write.contents in
    let r = c.write_text-3.result in
    let s = c.scale_of-scale.result in
    let all = w c.write_text-3.new.writer in
    let ratios = ratio_lines_text s (last_line s + 1) in
    let ticks = ticks_text s (s.doublings + 1) in
    let lines = lines_text s 0 c.args.lines.now in
    let end = codes "</svg>\n" in
    subst (λ t. OnOk r (Appends (w c.args.writer.now) all (chart_on t c.args.lines.now))) c.scale_of-scale.ensures.scale
    (appends_next r (w c.args.writer.now) (w c.write_text.new.writer) all HEAD.now (ratios ++ (ticks ++ (axes_text ++ (lines ++ end)))) c.in_ok-write_text.ensures
    (appends_next r (w c.write_text.new.writer) (w c.write_ratios.new.writer) all ratios (ticks ++ (axes_text ++ (lines ++ end))) c.in_ok-write_ratios.ensures
    (appends_next r (w c.write_ratios.new.writer) (w c.write_ticks.new.writer) all ticks (axes_text ++ (lines ++ end)) c.in_ok-write_ticks.ensures
    (appends_next r (w c.write_ticks.new.writer) (w c.write_text-2.new.writer) all axes_text (lines ++ end) c.in_ok-write_text-2.ensures
    (appends_next r (w c.write_text-2.new.writer) (w c.write_lines.new.writer) all lines end c.in_ok-write_lines.ensures c.write_text-3.ensures)))))
