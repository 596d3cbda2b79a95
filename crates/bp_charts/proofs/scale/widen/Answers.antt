use Rattle.std.proofs.Common.{get_or, ap}
use Rattle.std.proofs.lemmas.List.Sums.{fold_more}
use Rattle.bp_charts.specs.declared.curves.Point.{Point}
use Rattle.bp_charts.specs.declared.scale.Span.{Span}
use Rattle.bp_charts.specs.Scale.{and_point}
use Rattle.bp_charts.proofs.scale.widen.Goals as goal

pub loop-point-preserved : goal.loop-point-preserved
loop-point-preserved c =
    let i = c.loop-point.point-index in
    let points = c.args.points.now in
    let none : Point = record { frames = 0; hits = 0; fixes = 0 } in
    let more = fold_more and_point c.args.span points i none c.loop-point-test.true in
    let grown = ap (λ (s : Span). and_point s (get_or points i none)) c.loop-point.invariant in
    cc (more, grown)
