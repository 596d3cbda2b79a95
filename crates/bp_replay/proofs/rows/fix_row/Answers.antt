-- The pass is held.
use Rattle.std.proofs.Common.{◌∙◌, ap, sym, subst, ◌++◌, ◌∷◌, [], IfErr}
use Rattle.bp_scripts.specs.declared.rows.Step.TheVariants.{Fix}
use Rattle.bp_replay.specs.Rows.{RowCaused}
use Rattle.bp_device.proofs.Driving.{handed_on}
use Rattle.bp_replay.proofs.PieceSteps.{fix-drives}
use Rattle.bp_replay.proofs.RowCauses.{fix-row-caused}
use Rattle.bp_replay.proofs.rows.fix_row.Goals as goal

pub returns-clause-outcome : goal.returns-clause-outcome
returns-clause-outcome g c = fix-drives _ _ _ _ _ _ c.in_ok-pass.pass c.in_ok-pass.ensures.outcome (c.push.ensures.passes ∙ ap (λ g. c.args.held.now.passes ++ g ∷ []) c.note.ensures)

pub returns-in_err-pass-clause-cause : goal.returns-in_err-pass-clause-cause
returns-in_err-pass-clause-cause g c =
    subst (λ r. IfErr r (λ why. RowCaused (Fix c.args.page) why c.drive_fix.new.core)) (sym (handed_on c.from_residual.result c.in_err-pass.field-0.0 c.from_residual.ensures.1))
    (fix-row-caused _ _ _ c.in_err-pass.ensures.cause)
