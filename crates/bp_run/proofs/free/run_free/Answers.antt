-- A core can be made for the rows.
use Rattle.std.proofs.Common.{sym, subst, All}
use Rattle.bp_core.specs.Outcomes.{IsFit}
use Rattle.bp_core.specs.Agreement.{parameters_with}
use Rattle.bp_trace.specs.InRange.{IsInRange}
use Rattle.bp_cli.specs.Words.{options_of}
use Rattle.bp_run.specs.Scripts.{clients_of}
use Rattle.bp_run.proofs.Stopping.{free_fits}
use Rattle.bp_run.proofs.free.run_free.Goals as goal

pub run_threads-requires-clause-fit : goal.run_threads-requires-clause-fit
run_threads-requires-clause-fit g c κs within =
    let lent = subst (λ rows. All (IsInRange c.args.geometry) rows) (sym c.deref.ensures.value) c.requires.fits in
    subst (λ rows. IsFit (parameters_with c.config_of-config.result (clients_of rows))) c.deref.ensures.value
    (subst IsFit (sym c.config_of-config.ensures.parameters) (free_fits (options_of c.args.run.now) c.args.geometry c.deref.result.now c.requires.runnable lent))
