use Rattle.std.proofs.Common.{◌≡◌, [], sym, subst, rules, true}
use Rattle.std.specs.Result.{is_ok}
use Rattle.bp_charts.specs.declared.curves.Which.TheVariants.{K}
use Rattle.bp_charts.specs.Cells.{AreLines}
use Rattle.bp_charts.specs.Cells.AreLines.{none}
use Rattle.bp_charts.proofs.Shown.{line-next}
use Rattle.bp_charts.proofs.cells.lines_of.Goals as goal

pub loop-which-init : goal.loop-which-init
loop-which-init c =
    let new : c.new-lines.result.items ≡ [] = search rules in
    subst (λ lines. AreLines c.args.cells.now [] lines) (sym new) none

pub loop-which-preserved : goal.loop-which-preserved
loop-which-preserved c =
    let good : is_ok c.push.result ≡ true = search rules in
    let items = rw good at c.push.ensures.items in
    rw items (line-next c.args.cells.now c.args.names.now c.loop-which.which-index (K 0) c.loop-which.lines.items c.in_ok-line.line c.loop-which-test.true c.loop-which.invariant c.in_ok-line.ensures)
