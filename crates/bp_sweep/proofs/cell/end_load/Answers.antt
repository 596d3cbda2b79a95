-- The entry that the end of the read adds is counted.
use Rattle.std.proofs.Common.{subst, Err}
use Rattle.bp_core.specs.Outcomes.{ReadEndOutcome}
use Rattle.bp_sweep.proofs.Tally.{tally-room, tally-loaded, tally-failed}
use Rattle.bp_sweep.proofs.cell.end_load.Goals as goal

pub returns-in-Ok-clause-tallied : goal.returns-in-Ok-clause-tallied
returns-in-Ok-clause-tallied c =
    tally-loaded c.args.core.now c.read_end.new.self c.args.ticket c.args.read c.serial.result c.in-Ok.pass c.args.totals.now c.count.new.self c.requires.tallied c.in-Ok.ensures.outcome c.serial.ensures (c.count.ensures (tally-room c.args.core.now c.args.totals.now c.requires.tallied c.requires.few))

pub returns-in-Err-Failed-clause-tallied : goal.returns-in-Err-Failed-clause-tallied
returns-in-Err-Failed-clause-tallied c =
    tally-failed c.args.core.now c.read_end.new.self c.args.ticket c.args.read c.in-Err-Failed.refusal c.args.totals.now c.count-in-Err-Failed.new.self c.requires.tallied
    (subst (λ end. ReadEndOutcome c.args.core.now c.args.ticket c.args.read (Err end) c.read_end.new.self) c.in-Err-Failed.field-0-is c.in-Err-Failed.ensures.outcome) (c.count-in-Err-Failed.ensures (tally-room c.args.core.now c.args.totals.now c.requires.tallied c.requires.few))
