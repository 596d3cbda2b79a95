-- A fix adds its entry, or its write-out and what the same fix then answers.
use Rattle.std.proofs.Common.{◌≡◌, refl, sym, subst, Ok}
use Rattle.bp_core.specs.declared.passes.Fix.TheVariants as fixing
use Rattle.bp_core.specs.Outcomes.{FixOutcome}
use Rattle.bp_trail.specs.Pieces.FixGoesOn.{begins}
use Rattle.bp_device.specs.Drivers.{SavingOutcome}
use Rattle.bp_device.proofs.Driving.{adds-none, fix-drives, save-waits, save-drives, refusal-drives, handed_on}
use Rattle.bp_device.proofs.SecondTry.{no-second-write}
use Rattle.bp_device.proofs.Working.{none-yet, fixed-work, victim-work}
use Rattle.bp_device.proofs.drivers.fix_saving_victim.Goals as goal

pub returns-in_err-answer-clause-outcome : goal.returns-in_err-answer-clause-outcome
returns-in_err-answer-clause-outcome g c =
    subst (λ r. SavingOutcome c.args.core.now c.args.client c.args.page r c.fix.new.self) (sym (handed_on c.from_residual.result c.in_err-answer.field-0.0 c.from_residual.ensures.1))
    (refusal-drives _ c.args.core.now _ _ _ _ (adds-none c.args.core.now _ begins) c.in_err-answer.ensures.outcome)

pub returns-in_err-answer-clause-work : goal.returns-in_err-answer-clause-work
returns-in_err-answer-clause-work g c =
    fixed-work _ _ c.args.core.now c.args.core.now c.fix.new.self c.args.port.now c.args.port.now c.args.client c.args.page c.fix.result (none-yet _ _ c.args.core.now c.args.port.now) c.fix.ensures.outcome

pub returns-in_default : goal.returns-in_default
returns-in_default g c = record {
  outcome = fix-drives _ c.args.core.now _ _ _ (Ok c.in_ok-answer.answer) (adds-none c.args.core.now _ begins) c.in_ok-answer.ensures.outcome
      (λ ticket is. c.in_default.not-WriteFirst ticket (let ok : Ok c.in_ok-answer.answer ≡ Ok (fixing.WriteFirst ticket) = is in cc));
  cause = tt;
  work = fixed-work _ _ c.args.core.now c.args.core.now c.fix.new.self c.args.port.now c.args.port.now c.args.client c.args.page c.fix.result (none-yet _ _ c.args.core.now c.args.port.now) c.fix.ensures.outcome;
  geometry = refl;
}

pub returns-in_err-save-clause-outcome : goal.returns-in_err-save-clause-outcome
returns-in_err-save-clause-outcome g c =
    let h = subst (λ f. FixOutcome c.args.core.now c.args.client c.args.page (Ok f) c.fix.new.self) c.in-WriteFirst.is c.in_ok-answer.ensures.outcome in
    subst (λ r. SavingOutcome c.args.core.now c.args.client c.args.page r c.save.new.core) (sym (handed_on c.from_residual-in_err-save.result c.in_err-save.field-0.0 c.from_residual-in_err-save.ensures.1))
    (save-drives _ c.args.core.now c.fix.new.self _ _ _ c.in-WriteFirst.victim _ (adds-none c.args.core.now _ begins) h c.in_err-save.ensures.outcome)

pub returns-in_err-save-clause-work : goal.returns-in_err-save-clause-work
returns-in_err-save-clause-work g c =
    let h = subst (λ f. FixOutcome c.args.core.now c.args.client c.args.page (Ok f) c.fix.new.self) c.in-WriteFirst.is c.in_ok-answer.ensures.outcome in
    victim-work _ _ c.args.core.now c.args.core.now c.fix.new.self c.save.new.core c.args.port.now c.args.port.now c.write-written.new.self c.args.client c.args.page c.in-WriteFirst.victim c.write-written.result c.save.result
    (none-yet _ _ c.args.core.now c.args.port.now) h c.save.ensures.outcome c.save.ensures.good (c.page.result, c.image.result.now, c.lsn.result, c.page.ensures, c.image.ensures, c.lsn.ensures, c.write-written.ensures.gives)

pub returns-clause-outcome : goal.returns-clause-outcome
returns-clause-outcome g c =
    let h = subst (λ f. FixOutcome c.args.core.now c.args.client c.args.page (Ok f) c.fix.new.self) c.in-WriteFirst.is c.in_ok-answer.ensures.outcome in
    fix-drives _ c.save.new.core c.fix-2.new.self _ _ c.fix-2.result
    (save-waits _ c.args.core.now c.fix.new.self _ _ _ c.in-WriteFirst.victim _ (adds-none c.args.core.now _ begins) h c.in_ok-save.ensures.outcome) c.fix-2.ensures.outcome
    (λ other is. no-second-write c.args.core.now c.fix.new.self c.save.new.core c.fix-2.new.self c.args.client c.args.page c.in-WriteFirst.victim other c.in_ok-save.field-0 h c.in_ok-save.ensures.outcome
    (subst (λ r. FixOutcome c.save.new.core c.args.client c.args.page r c.fix-2.new.self) is c.fix-2.ensures.outcome))

pub returns-clause-work : goal.returns-clause-work
returns-clause-work g c =
    let h = subst (λ f. FixOutcome c.args.core.now c.args.client c.args.page (Ok f) c.fix.new.self) c.in-WriteFirst.is c.in_ok-answer.ensures.outcome in
    fixed-work _ _ c.args.core.now c.save.new.core c.fix-2.new.self c.args.port.now c.write-written.new.self c.args.client c.args.page c.fix-2.result
    (victim-work _ _ c.args.core.now c.args.core.now c.fix.new.self c.save.new.core c.args.port.now c.args.port.now c.write-written.new.self c.args.client c.args.page c.in-WriteFirst.victim c.write-written.result c.save.result
    (none-yet _ _ c.args.core.now c.args.port.now) h c.save.ensures.outcome c.save.ensures.good (c.page.result, c.image.result.now, c.lsn.result, c.page.ensures, c.image.ensures, c.lsn.ensures, c.write-written.ensures.gives))
    c.fix-2.ensures.outcome
