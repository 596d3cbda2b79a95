-- A flush adds its entry, and the end of its write-out where one began.
use Rattle.std.proofs.Common.{refl, subst, sym, Ok, Err}
use Rattle.bp_core.specs.Outcomes.{FlushOutcome}
use Rattle.std.specs.Prelude.{IfErr}
use Rattle.bp_device.specs.Drivers.{DrivesFlush, IsCaused, SaveOutcome}
use Rattle.bp_device.proofs.Driving.{clean-drives, absent-drives, saved-drives, save-flush-drives, flush-refusal-drives, handed_on}
use Rattle.bp_trail.specs.declared.entries.Call.TheVariants.{Flush}
use Rattle.bp_trail.specs.declared.entries.Reply.TheVariants.{Clean, Absent}
use Rattle.bp_device.proofs.Working.{none-yet, one-more, flushed-work, refused-flush-work}
use Rattle.bp_device.proofs.Causes.{flush-caused, save-caused}
use Rattle.bp_device.proofs.drivers.drive_flush.Goals as goal

pub returns-in-Clean-clause-outcome : goal.returns-in-Clean-clause-outcome
returns-in-Clean-clause-outcome g c = clean-drives _ _ _ _ (subst (λ f. FlushOutcome c.args.core.now c.args.client c.args.page (Ok f) c.flush.new.self) c.in-Clean.is c.in_ok-flush.ensures.outcome)

pub returns-in-Absent-clause-outcome : goal.returns-in-Absent-clause-outcome
returns-in-Absent-clause-outcome g c = absent-drives _ _ _ _ (subst (λ f. FlushOutcome c.args.core.now c.args.client c.args.page (Ok f) c.flush.new.self) c.in-Absent.is c.in_ok-flush.ensures.outcome)

pub returns-in_ok-ended-in-WriteFirst-clause-outcome : goal.returns-in_ok-ended-in-WriteFirst-clause-outcome
returns-in_ok-ended-in-WriteFirst-clause-outcome g c =
    saved-drives _ c.flush.new.self _ _ _ c.in-WriteFirst.ticket c.in_ok-ended-in-WriteFirst.ended c.flushed.result (sym c.flushed.ensures)
    (subst (λ f. FlushOutcome c.args.core.now c.args.client c.args.page (Ok f) c.flush.new.self) c.in-WriteFirst.is c.in_ok-flush.ensures.outcome)
    c.in_ok-ended-in-WriteFirst.ensures.outcome

pub returns-in_err-ended-in-WriteFirst-clause-outcome : goal.returns-in_err-ended-in-WriteFirst-clause-outcome
returns-in_err-ended-in-WriteFirst-clause-outcome g c =
    subst (λ r. DrivesFlush c.args.core.now c.args.client c.args.page r c.save.new.core) (sym (handed_on c.from_residual-in_err-ended-in-WriteFirst.result c.in_err-ended-in-WriteFirst.field-0.0 c.from_residual-in_err-ended-in-WriteFirst.ensures.1))
    (save-flush-drives _ c.flush.new.self _ _ _ c.in-WriteFirst.ticket _ (subst (λ f. FlushOutcome c.args.core.now c.args.client c.args.page (Ok f) c.flush.new.self) c.in-WriteFirst.is c.in_ok-flush.ensures.outcome) c.in_err-ended-in-WriteFirst.ensures.outcome)

pub returns-in_err-flush-clause-outcome : goal.returns-in_err-flush-clause-outcome
returns-in_err-flush-clause-outcome g c =
    subst (λ r. DrivesFlush c.args.core.now c.args.client c.args.page r c.flush.new.self) (sym (handed_on c.from_residual.result c.in_err-flush.field-0.0 c.from_residual.ensures.1))
    (flush-refusal-drives _ _ _ _ _ c.in_err-flush.ensures.outcome)

pub returns-in-Clean-clause-work : goal.returns-in-Clean-clause-work
returns-in-Clean-clause-work g c =
    let h = (subst (λ f. FlushOutcome c.args.core.now c.args.client c.args.page (Ok f) c.flush.new.self) c.in-Clean.is c.in_ok-flush.ensures.outcome) in
    one-more _ _ _ c.args.core.now _ _ _ _ c.args.client (Flush c.args.page) Clean (none-yet _ _ c.args.core.now c.args.port.now) h.1.is refl

pub returns-in-Absent-clause-work : goal.returns-in-Absent-clause-work
returns-in-Absent-clause-work g c =
    let h = (subst (λ f. FlushOutcome c.args.core.now c.args.client c.args.page (Ok f) c.flush.new.self) c.in-Absent.is c.in_ok-flush.ensures.outcome) in
    one-more _ _ _ c.args.core.now _ _ _ _ c.args.client (Flush c.args.page) Absent (none-yet _ _ c.args.core.now c.args.port.now) h.1.is refl

pub returns-in_ok-ended-in-WriteFirst-clause-work : goal.returns-in_ok-ended-in-WriteFirst-clause-work
returns-in_ok-ended-in-WriteFirst-clause-work g c =
    flushed-work _ _ c.args.core.now c.flush.new.self c.save.new.core c.args.port.now c.write-written.new.self c.args.client c.args.page c.in-WriteFirst.ticket c.write-written.result (Ok c.in_ok-ended-in-WriteFirst.ended)
    (subst (λ f. FlushOutcome c.args.core.now c.args.client c.args.page (Ok f) c.flush.new.self) c.in-WriteFirst.is c.in_ok-flush.ensures.outcome) c.in_ok-ended-in-WriteFirst.ensures.outcome c.in_ok-ended-in-WriteFirst.ensures.good (c.page.result, c.image.result.now, c.lsn.result, c.page.ensures, c.image.ensures, c.lsn.ensures, c.write-written.ensures.gives)

pub returns-in_err-ended-in-WriteFirst-clause-work : goal.returns-in_err-ended-in-WriteFirst-clause-work
returns-in_err-ended-in-WriteFirst-clause-work g c =
    flushed-work _ _ c.args.core.now c.flush.new.self c.save.new.core c.args.port.now c.write-written.new.self c.args.client c.args.page c.in-WriteFirst.ticket c.write-written.result (Err c.in_err-ended-in-WriteFirst.field-0.0)
    (subst (λ f. FlushOutcome c.args.core.now c.args.client c.args.page (Ok f) c.flush.new.self) c.in-WriteFirst.is c.in_ok-flush.ensures.outcome) c.in_err-ended-in-WriteFirst.ensures.outcome c.in_err-ended-in-WriteFirst.ensures.good (c.page.result, c.image.result.now, c.lsn.result, c.page.ensures, c.image.ensures, c.lsn.ensures, c.write-written.ensures.gives)

pub returns-in_err-flush-clause-work : goal.returns-in_err-flush-clause-work
returns-in_err-flush-clause-work g c = refused-flush-work _ _ c.args.core.now c.flush.new.self c.args.port.now c.args.client c.args.page c.in_err-flush.field-0.0 c.in_err-flush.ensures.outcome

pub returns-in_err-ended-in-WriteFirst-clause-cause : goal.returns-in_err-ended-in-WriteFirst-clause-cause
returns-in_err-ended-in-WriteFirst-clause-cause g c =
    subst (λ r. IfErr r (λ why. IsCaused (Flush c.args.page) why c.save.new.core)) (sym (handed_on c.from_residual-in_err-ended-in-WriteFirst.result c.in_err-ended-in-WriteFirst.field-0.0 c.from_residual-in_err-ended-in-WriteFirst.ensures.1))
    (save-caused c.flush.new.self c.save.new.core (Flush c.args.page) c.in-WriteFirst.ticket c.in_err-ended-in-WriteFirst.field-0.0 c.in_err-ended-in-WriteFirst.ensures.outcome)

pub returns-in_err-flush-clause-cause : goal.returns-in_err-flush-clause-cause
returns-in_err-flush-clause-cause g c =
    subst (λ r. IfErr r (λ why. IsCaused (Flush c.args.page) why c.flush.new.self)) (sym (handed_on c.from_residual.result c.in_err-flush.field-0.0 c.from_residual.ensures.1))
    (flush-caused c.args.core.now c.flush.new.self c.args.client c.args.page c.in_err-flush.field-0.0 c.in_err-flush.ensures.outcome c.in_err-flush.ensures.memory)
