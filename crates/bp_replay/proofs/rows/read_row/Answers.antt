-- The read, or its refusal, by the latest pass.
use Rattle.std.proofs.Common.{sym, subst, ◌∙◌}
use Rattle.bp_trail.specs.Pieces.{outcome_of}
use Rattle.bp_scripts.specs.declared.rows.Step.TheVariants.{Read}
use Rattle.bp_replay.specs.Rows.{DrivesRow}
use Rattle.bp_device.proofs.Driving.{handed_on}
use Rattle.bp_replay.proofs.PieceSteps.{read-drives, read_refused-drives}
use Rattle.bp_replay.proofs.rows.read_row.Goals as goal

pub returns-in_err-read-clause-outcome : goal.returns-in_err-read-clause-outcome
returns-in_err-read-clause-outcome g c =
    subst (λ r. DrivesRow c.args.core.now c.args.client (Read c.args.page) (outcome_of r) c.args.held.now.passes c.args.held.now.passes c.read_into-read.new.self) (sym (handed_on c.from_residual.result c.in_err-read.field-0.0 c.from_residual.ensures.1))
    (read_refused-drives _ _ _ _ _ c.in-Some.note c.pass-pass.result _ c.requires.ends_in (sym c.latest.ensures ∙ c.in-Some.is) (record { client_is = c.pass-pass.ensures.client; page_is = c.pass-pass.ensures.page; serial_is = c.pass-pass.ensures.serial }) c.in_err-read.ensures.outcome.0)

pub returns-clause-outcome : goal.returns-clause-outcome
returns-clause-outcome g c = read-drives _ _ _ _ _ c.in-Some.note c.pass-pass.result _ c.requires.ends_in (sym c.latest.ensures ∙ c.in-Some.is) (record { client_is = c.pass-pass.ensures.client; page_is = c.pass-pass.ensures.page; serial_is = c.pass-pass.ensures.serial }) c.in_ok-read.ensures.outcome.0
