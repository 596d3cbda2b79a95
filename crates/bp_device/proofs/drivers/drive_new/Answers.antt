-- A fix ends with its pass, or with the zeros that were made.
use Rattle.std.proofs.Common.{refl, subst, Ok}
use Rattle.bp_device.specs.Drivers.{SavingOutcome}
use Rattle.bp_core.specs.Work.{IsBlank}
use Rattle.bp_device.proofs.Driving.{load-drives}
use Rattle.bp_device.proofs.Working.{loaded-work, no-read-work}
use Rattle.bp_device.proofs.drivers.drive_new.Goals as goal

pub returns-in-Load-clause-outcome : goal.returns-in-Load-clause-outcome
returns-in-Load-clause-outcome g c =
    let f = subst (λ f. SavingOutcome c.args.core.now c.args.client c.args.page (Ok f) c.fix_saving_victim.new.core) c.in-Load.is c.in_ok-answer.ensures.outcome in
    load-drives _ f.0 c.fix_saving_victim.new.core _ _ _ c.in-Load.ticket c.in-Load.field-1 c.blank_image-blank.result c.load.result f.1 f.2 c.load.ensures.outcome

pub returns-in-Load-clause-work : goal.returns-in-Load-clause-work
returns-in-Load-clause-work g c =
    loaded-work _ _ c.args.core.now c.fix_saving_victim.new.core c.load.new.core c.args.port.now c.fix_saving_victim.new.port c.fix_saving_victim.new.port c.in-Load.ticket c.blank_image-blank.result c.load.result
    (no-read-work _ _ _ _ _ _ c.fix_saving_victim.ensures.work) c.load.ensures.outcome
    (subst (λ size. IsBlank size c.blank_image-blank.result) c.geometry-geometry.ensures.size c.blank_image-blank.ensures.blank, refl)

pub returns-in_err-answer-clause-work : goal.returns-in_err-answer-clause-work
returns-in_err-answer-clause-work g c = no-read-work _ _ _ _ _ _ c.fix_saving_victim.ensures.work

pub returns-in-Hit-clause-work : goal.returns-in-Hit-clause-work
returns-in-Hit-clause-work g c = no-read-work _ _ _ _ _ _ c.fix_saving_victim.ensures.work
