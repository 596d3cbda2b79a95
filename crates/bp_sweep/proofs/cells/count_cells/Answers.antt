-- One cell after the other.
use Rattle.std.proofs.Common.{◌≡◌, ◌∙◌, ◌+◌, refl, sym, ap, subst, arith, not, true, [], get_or, length}
use Rattle.std.specs.Result.{is_ok}
use Rattle.bp_page.specs.declared.refusals.Refusal.TheVariants.{OutOfMemory}
use Rattle.bp_sweep.specs.Sweeping.{AreCells, IsCell, line_of}
use Rattle.bp_sweep.specs.Sweeping.AreCells.{none}
use Rattle.bp_sweep.proofs.Sweeping.{cell-next, cell_refuses, no_plan}
use Rattle.bp_sweep.proofs.cells.count_cells.Goals as goal

pub loop-plan-init : goal.loop-plan-init
loop-plan-init g c = record { cells = subst (λ lines. AreCells c.args.references.now [] lines) (sym c.new-lines.ensures.items) none; cell = refl }

pub returns-in-Err-clause-fault : goal.returns-in-Err-clause-fault
returns-in-Err-clause-fault g c =
    cell_refuses c.args.references.now c.args.plans.now c.loop-plan.plan-index no_plan c.loop-plan.lines.items (record { cell = c.loop-plan.cell + 1; refusal = c.in-Err.refusal })
    c.loop-plan-test.true c.loop-plan.invariant.cells (omega (arith, c.loop-plan.invariant.cell)) c.in-Err.ensures.fault

pub returns-then-is_err-clause-fault : goal.returns-then-is_err-clause-fault
returns-then-is_err-clause-fault g c =
    cell_refuses c.args.references.now c.args.plans.now c.loop-plan.plan-index no_plan c.loop-plan.lines.items (record { cell = c.loop-plan.cell + 1; refusal = OutOfMemory })
    c.loop-plan-test.true c.loop-plan.invariant.cells (omega (arith, c.loop-plan.invariant.cell)) tt

pub loop-plan-preserved : goal.loop-plan-preserved
loop-plan-preserved g c =
    let good : is_ok c.push.result ≡ true = c.is_err.ensures.negation ∙ ap not c.if-is_err.false in
    let items = rw good at c.push.ensures.items in
    let plan = get_or c.args.plans.now c.loop-plan.plan-index no_plan in
    let cell : IsCell c.args.references.now plan c.line_of.result = record {
      totals = c.in-Ok.totals;
      fit = c.in-Ok.ensures.fit;
      counted = c.in-Ok.ensures.counted;
      read = c.in-Ok.ensures.read;
      line_is = c.line_of.ensures ∙ ap (λ pages. line_of (length pages) plan c.in-Ok.totals) c.pages.ensures.pages;
    } in
    record {
      cells = rw items (cell-next c.args.references.now c.args.plans.now c.loop-plan.plan-index no_plan c.loop-plan.lines.items c.line_of.result c.loop-plan-test.true c.loop-plan.invariant.cells cell);
      cell = omega (arith, c.loop-plan.invariant.cell);
    }
