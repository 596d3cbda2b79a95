-- The write, or its refusal, by the latest pass.
use Rattle.std.proofs.Common.{◌∙◌, sym, Result, Ok, Err}
use Rattle.bp_page.specs.declared.refusals.Refusal.{Refusal}
use Rattle.bp_core.specs.Outcomes.{WriteOutcome}
use Rattle.bp_trail.specs.Pieces.{outcome_of}
use Rattle.bp_scripts.specs.declared.rows.Step.TheVariants.{Write}
use Rattle.bp_replay.specs.Rows.{DrivesRow}
use Rattle.bp_replay.proofs.PieceSteps.{write-drives, write_refused-drives}
use Rattle.bp_replay.proofs.rows.write_row.Goals as goal

pub returns-clause-outcome : goal.returns-clause-outcome
returns-clause-outcome g c = go c.write-written.result c.write-written.ensures.outcome
  where
    go : (written : Result (Unit {0}) Refusal) → WriteOutcome c.args.core.now c.pass-pass.result c.args.offset c.args.bytes.now c.args.lsn written c.write-written.new.self
        → DrivesRow c.args.core.now c.args.client (Write c.args.page c.args.offset c.args.bytes.now c.args.lsn) (outcome_of written) c.args.held.now.passes c.args.held.now.passes c.write-written.new.self
    go (Ok done) outcome = write-drives _ _ _ _ _ _ _ _ c.in-Some.note c.pass-pass.result c.requires.ends_in (sym c.latest.ensures ∙ c.in-Some.is) (record { client_is = c.pass-pass.ensures.client; page_is = c.pass-pass.ensures.page; serial_is = c.pass-pass.ensures.serial }) outcome
    go (Err why) outcome = write_refused-drives _ _ _ _ _ _ _ _ c.in-Some.note c.pass-pass.result _ c.requires.ends_in (sym c.latest.ensures ∙ c.in-Some.is) (record { client_is = c.pass-pass.ensures.client; page_is = c.pass-pass.ensures.page; serial_is = c.pass-pass.ensures.serial }) outcome
