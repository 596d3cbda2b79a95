use Rattle.std.proofs.Common.{◌∙◌, ◌+◌, ◌++◌, [], drop, refl, sym, ap, append_assoc, arith}
use Rattle.std.proofs.KnownBytes.{Appends-nil, Appends-trans}
use Rattle.std.proofs.lemmas.List.{append-nil, drop_all}
use Rattle.bp_charts.specs.Chart.{line_text, lines_text}
use Rattle.bp_charts.proofs.Pieces.{lines_text-drop}
use Rattle.bp_charts.proofs.chart.write_lines.Goals as goal

pub loop-line-init : goal.loop-line-init
loop-line-init g c = record {
  count = refl;
  written = [];
  appended = Appends-nil (g.W.Write.contents c.args.writer.now);
  left = refl;
}

pub loop-line-preserved : goal.loop-line-preserved
loop-line-preserved g c =
    let inv = c.loop-line.invariant in
    let s = c.args.scale.now in
    let n = c.loop-line.number in
    let i = c.loop-line.line-index in
    let lines = c.args.lines.now in
    let here = c.line-item.result in
    let w = g.W.Write.contents in
    let text = line_text s n here in
    record {
      count = omega arith;
      written = inv.written ++ text;
      appended = Appends-trans (w c.args.writer.now) (w c.loop-line.writer) (w c.write_line.new.writer) inv.written text inv.appended c.in_ok-write_line.ensures;
      left = append_assoc inv.written text (lines_text s (n + 1) (drop (i + 1) lines))
          ∙ ap (λ t. inv.written ++ t) (sym (lines_text-drop s n lines i here c.loop-line-test.true c.line-item.is))
          ∙ inv.left;
    }

pub returns : goal.returns
unfolding lines_text
returns g c =
    let inv = c.loop-line.invariant in
    let none = drop_all c.loop-line.line-index c.args.lines.now c.loop-line-test.false in
    rw (← (sym (append-nil inv.written) ∙ rw none at inv.left)) inv.appended
