-- The page is saved, or the row was refused.
use Rattle.std.proofs.Common.{sym, subst, IfErr}
use Rattle.bp_trail.specs.Pieces.{outcome_of}
use Rattle.bp_scripts.specs.declared.rows.Step.TheVariants.{Flush}
use Rattle.bp_replay.specs.Rows.{DrivesRow, RowCaused}
use Rattle.bp_device.proofs.Driving.{handed_on}
use Rattle.bp_replay.proofs.PieceSteps.{flush-drives, flush_refused-drives}
use Rattle.bp_replay.proofs.RowCauses.{flush-row-caused}
use Rattle.bp_replay.proofs.rows.flush_row.Goals as goal

pub returns-clause-outcome : goal.returns-clause-outcome
returns-clause-outcome g c = flush-drives _ _ _ _ _ _ c.in_ok-drive_flush.ensures.outcome

pub returns-in_err-drive_flush-clause-outcome : goal.returns-in_err-drive_flush-clause-outcome
returns-in_err-drive_flush-clause-outcome g c =
    subst (λ r. DrivesRow c.args.core.now c.args.client (Flush c.args.page) (outcome_of r) c.args.held.now.passes c.args.held.now.passes c.drive_flush.new.core) (sym (handed_on c.from_residual.result c.in_err-drive_flush.field-0.0 c.from_residual.ensures.1))
    (flush_refused-drives _ _ _ _ _ _ c.in_err-drive_flush.ensures.outcome)

pub returns-in_err-drive_flush-clause-cause : goal.returns-in_err-drive_flush-clause-cause
returns-in_err-drive_flush-clause-cause g c =
    subst (λ r. IfErr r (λ why. RowCaused (Flush c.args.page) why c.drive_flush.new.core)) (sym (handed_on c.from_residual.result c.in_err-drive_flush.field-0.0 c.from_residual.ensures.1))
    (flush-row-caused _ _ _ c.in_err-drive_flush.ensures.cause)
