use Rattle.std.proofs.Common.{◌∙◌, ◌++◌, ap, get_or}
use Rattle.bp_charts.specs.declared.curves.Which.TheVariants.{K}
use Rattle.bp_charts.specs.declared.cells.Cell.{Cell}
use Rattle.bp_charts.specs.Cells.{own_point}
use Rattle.bp_charts.proofs.Shown.{points-next}
use Rattle.bp_charts.proofs.cells.line_of.Goals as goal

pub loop-cell-preserved : goal.loop-cell-preserved
loop-cell-preserved c =
    let which = c.args.which in
    let cells = c.args.cells.now in
    let i = c.loop-cell.cell-index in
    let none : Cell = record { which = K 0; point = record { frames = 0; hits = 0; fixes = 0 } } in
    c.in_ok-add_point.ensures ∙ ap (λ points. points ++ own_point which (get_or cells i none)) c.loop-cell.invariant
    ∙ points-next which cells i none c.loop-cell-test.true
