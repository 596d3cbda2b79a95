-- A chart: a picture of hit ratios over frames, as bytes.
use Rattle.std.specs.Prelude.{ℕ, ◌+◌, List, [], ◌∷◌, ◌++◌, codes, flat_map}
use Rattle.bp_charts.specs.declared.fixed.TheConstants.{HEAD}
use Rattle.bp_charts.specs.declared.curves.Curve.{Curve}
use Rattle.bp_charts.specs.declared.scale.Scale.{Scale}
use Rattle.bp_charts.specs.Scale.{scale_over, span_of}
use Rattle.bp_charts.specs.Places.{stroke_of, mark_of}
use Rattle.bp_charts.specs.Axis.{last_line, ratio_lines_text, ticks_text}
use Rattle.bp_charts.specs.Labels.{style_text, legend_text}

-- the line with this number: one stroke through all its points, a mark at each, and its row of the
-- legend
unfoldable pub line_text : Scale → ℕ → Curve → List ℕ
line_text s number line =
    style_text line.which number
    ++ (codes "<polyline points='"
    ++ (flat_map (stroke_of s) line.points.items
    ++ (codes "'/>\n"
    ++ (flat_map (mark_of s) line.points.items
    ++ legend_text line.which number))))

-- the lines from the one with this number on
unfoldable pub lines_text : Scale → ℕ → List Curve → List ℕ
lines_text s number [] = []
lines_text s number (line ∷ later) = line_text s number line ++ lines_text s (number + 1) later

-- the line of both axes
abbrev pub axes_text : List ℕ
axes_text = codes "<path class='axis' d='M800 400v4000h6400'/>\n"

-- a chart with these axes
unfoldable pub chart_on : Scale → List Curve → List ℕ
chart_on s lines =
    HEAD.now ++ (ratio_lines_text s (last_line s + 1)
    ++ (ticks_text s (s.doublings + 1)
    ++ (axes_text ++ (lines_text s 0 lines ++ codes "</svg>\n"))))

abbrev pub chart_text : List Curve → List ℕ
chart_text lines = chart_on (scale_over (span_of lines)) lines
