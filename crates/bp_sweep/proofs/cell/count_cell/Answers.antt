-- A new core, and what its entries come to at the end.
use Rattle.std.proofs.Common.{ℕ, ap, ◌∙◌, arith}
use Rattle.bp_page.specs.declared.refusals.Refusal.{Refusal}
use Rattle.bp_page.specs.declared.refusals.Refusal.TheVariants as refusal
use Rattle.bp_page.specs.declared.limits.Geometry.{Geometry}
use Rattle.bp_core.specs.CoreView.{CoreView}
use Rattle.bp_sweep.specs.Cells.{cell_parameters}
use Rattle.bp_sweep.specs.Referring.{EndsCell, CellRefused}
use Rattle.bp_sweep.proofs.Steps.{run-counted}
use Rattle.bp_sweep.proofs.Fixing.{tally-new}
use Rattle.bp_sweep.proofs.cell.count_cell.Goals as goal

pub refer_all-made-requires-clause-tallied : goal.refer_all-made-requires-clause-tallied
refer_all-made-requires-clause-tallied g c = tally-new _ c.in_ok-core.core c.none-totals.result c.in_ok-core.ensures.outcome.1 (omega arith) c.none-totals.ensures

pub returns-in-Ok-clause-counted : goal.returns-in-Ok-clause-counted
returns-in-Ok-clause-counted g c =
    run-counted (cell_parameters (g.P.Port.geometry_of c.args.port.now) c.args.settings c.args.frames) c.in_ok-core.core c.refer_all-made.new.core c.args.references.now c.refer_all-made.new.totals
    (ap (λ (core : CoreView). core.parameters) c.in_ok-core.ensures.outcome.1 ∙ ap (λ (geometry : Geometry). cell_parameters geometry c.args.settings c.args.frames) c.geometry.ensures)
    (ap (λ (core : CoreView). core.past) c.in_ok-core.ensures.outcome.1)
    c.in-Ok.ensures.run c.in-Ok.ensures.tallied c.keeps_the_rules.ensures.legal

ends-refused : (frames : ℕ) (why : Refusal) → EndsCell why → CellRefused frames why
ends-refused frames refusal.BadSettings h = absurd h
ends-refused frames _ h = h

pub returns-in-Err-clause-fault : goal.returns-in-Err-clause-fault
returns-in-Err-clause-fault g c = ends-refused c.args.frames c.in-Err.refusal c.in-Err.ensures.fault
