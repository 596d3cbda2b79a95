use Rattle.std.proofs.Common.{◌-◌, ◌^◌, get_or, ap}
use Rattle.std.proofs.lemmas.List.Sums.{fold_more}
use Rattle.bp_charts.specs.declared.curves.Curve.{Curve}
use Rattle.bp_charts.specs.declared.scale.Span.{Span}
use Rattle.bp_charts.specs.Scale.{and_line}
use Rattle.bp_charts.proofs.scale.span_of.Goals as goal

pub loop-line-preserved : goal.loop-line-preserved
loop-line-preserved c =
    let i = c.loop-line.line-index in
    let lines = c.args.lines.now in
    let line = c.line-item.result in
    let start : Span = record { least = 2 ^ 64 - 1; greatest = 1; lowest = 9; highest = 0 } in
    let more = fold_more and_line start lines i line c.loop-line-test.true in
    let grown = ap (λ (s : Span). and_line s (get_or lines i line)) c.loop-line.invariant in
    let here = ap (λ (l : Curve). and_line c.loop-line.span l) c.line-item.is in
    cc (more, grown, here, c.as_slice.ensures.value)
