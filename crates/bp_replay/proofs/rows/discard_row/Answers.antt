-- The discard, or its refusal.
use Rattle.std.proofs.Common.{sym, subst, IfErr}
use Rattle.bp_trail.specs.Pieces.{outcome_of}
use Rattle.bp_scripts.specs.declared.rows.Step.TheVariants.{Discard}
use Rattle.bp_replay.specs.Rows.{DrivesRow, RowCaused}
use Rattle.bp_device.proofs.Driving.{handed_on}
use Rattle.bp_replay.proofs.PieceSteps.{discard-drives, discard_refused-drives}
use Rattle.bp_replay.proofs.RowCauses.{discard-row-caused}
use Rattle.bp_replay.proofs.rows.discard_row.Goals as goal

pub returns-clause-outcome : goal.returns-clause-outcome
returns-clause-outcome g c = discard-drives _ _ _ _ _ c.in_ok-discard.field-0 c.in_ok-discard.ensures.outcome

pub returns-in_err-discard-clause-outcome : goal.returns-in_err-discard-clause-outcome
returns-in_err-discard-clause-outcome g c =
    subst (λ r. DrivesRow c.args.core.now c.args.client (Discard c.args.page) (outcome_of r) c.args.held.now.passes c.args.held.now.passes c.discard.new.self) (sym (handed_on c.from_residual.result c.in_err-discard.field-0.0 c.from_residual.ensures.1))
    (discard_refused-drives _ _ _ _ _ c.in_err-discard.field-0.0 c.in_err-discard.ensures.outcome)

pub returns-in_err-discard-clause-cause : goal.returns-in_err-discard-clause-cause
returns-in_err-discard-clause-cause g c =
    subst (λ r. IfErr r (λ why. RowCaused (Discard c.args.page) why c.discard.new.self)) (sym (handed_on c.from_residual.result c.in_err-discard.field-0.0 c.from_residual.ensures.1))
    (discard-row-caused c.args.core.now _ c.args.client _ c.in_err-discard.field-0.0 c.in_err-discard.ensures.outcome)
