-- The report of what was added to a new core.
use Rattle.std.proofs.Common.{◌++◌, reverse, subst, rules}
use Rattle.std.specs.Io.KnownBytes.{Appends}
use Rattle.bp_trace.specs.Report.{rows_text}
use Rattle.bp_run.specs.Run.{report_of}
use Rattle.bp_run.proofs.Working.{reported}
use Rattle.bp_run.proofs.run.drive_rows.Goals as goal

pub returns-in-Ok-print_core-clause-reported : goal.returns-in-Ok-print_core-clause-reported
returns-in-Ok-print_core-clause-reported g c =
    reported g.P.Port.read_gives g.P.Port.write_gives c.args.totals c.args.core.now c.drive_all.new.core c.args.port.now c.drive_all.new.port c.args.rows.now c.in-Ok.refused.items c.is_empty.result _ _
    c.requires.new.0 c.requires.new.1 c.in-Ok.ensures.follows c.in-Ok.ensures.caused c.drive_all.ensures.work c.keeps_the_rules.ensures.legal (search rules)
    (subst (λ rows. Appends (g.W.Write.contents c.args.out.now) (g.W.Write.contents c.print_core.new.out) (report_of c.args.totals (reverse c.drive_all.new.core.past) ++ rows_text rows)) c.deref.ensures.value c.in-Ok-print_core.ensures)
