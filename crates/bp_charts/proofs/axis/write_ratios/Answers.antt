use Rattle.std.proofs.Common.{sym, subst}
use Rattle.std.specs.Io.KnownBytes.{Appends}
use Rattle.std.proofs.KnownBytes.{Appends-nil, Appends-trans}
use Rattle.bp_charts.specs.Places.{down_of}
use Rattle.bp_charts.specs.Axis.{ratio_at, ratio_line_text, ratio_lines_text}
use Rattle.bp_charts.proofs.Pieces.{ratio_lines_text-next}
use Rattle.bp_charts.proofs.axis.write_ratios.Goals as goal

pub loop-line-init : goal.loop-line-init
unfolding ratio_lines_text
loop-line-init g c = Appends-nil (g.W.Write.contents c.args.writer.now)

pub loop-line-preserved : goal.loop-line-preserved
loop-line-preserved g c =
    let w = g.W.Write.contents in
    let s = c.args.scale.now in
    let n = c.loop-line.line in
    let text = ratio_line_text (down_of s (ratio_at s n) 100) (ratio_at s n) in
    let here : Appends (w c.loop-line.writer) (w c.write_ratio.new.writer) text = rw (← c.ratio_at-hundredths.ensures, ← c.down_of.ensures) c.in_ok-write_ratio.ensures in
    subst (Appends (w c.args.writer.now) (w c.write_ratio.new.writer)) (sym (ratio_lines_text-next s n))
    (Appends-trans (w c.args.writer.now) (w c.loop-line.writer) (w c.write_ratio.new.writer) (ratio_lines_text s n) text c.loop-line.invariant here)
