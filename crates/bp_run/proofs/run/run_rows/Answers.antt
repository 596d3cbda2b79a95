use Rattle.bp_cli.specs.Words.{options_of}
use Rattle.bp_run.proofs.Opened.{rows_fit}
use Rattle.bp_run.proofs.run.run_rows.Goals as goal

pub drive_rows-driven-requires-clause-fits : goal.drive_rows-driven-requires-clause-fits
drive_rows-driven-requires-clause-fits g c =
    rows_fit (options_of c.args.run.now) (g.P.Port.geometry_of c.args.port.now) c.geometry.result c.args.rows.now c.in_ok-core.core.parameters c.requires.fits c.geometry.ensures c.in_ok-core.ensures.made.0

pub returns-clause-reported : goal.returns-clause-reported
returns-clause-reported g c = rw (c.in_ok-core.ensures.made.0, c.geometry.ensures) at c.drive_rows-driven.ensures.reported
