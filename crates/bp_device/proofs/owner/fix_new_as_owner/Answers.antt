-- The work is that of the fix.
use Rattle.std.proofs.Common.{ap, subst}
use Rattle.bp_core.specs.Work.{DoesWork}
use Rattle.bp_core.specs.Work.{MadeBlank}
use Rattle.bp_device.proofs.Owning.{ticked-work, ticked-parameters, fix-known}
use Rattle.bp_device.proofs.Working.{work-join}
use Rattle.bp_device.proofs.owner.fix_new_as_owner.Goals as goal

pub returns-clause-work : goal.returns-clause-work
returns-clause-work g c =
    let ticked = c.in_ok-tick_first.ensures.ticked in
    let size = ap (λ p. p.size) (ticked-parameters c.args.is_ticking c.args.core.now c.tick_first.new.core ticked) in
    work-join _ _ c.args.core.now c.tick_first.new.core c.drive_new.new.core c.args.port.now c.args.port.now c.drive_new.new.port
    (ticked-work _ _ c.args.is_ticking c.args.core.now c.tick_first.new.core c.args.port.now ticked)
    (subst (λ size. DoesWork (MadeBlank size) g.P.Port.write_gives c.tick_first.new.core c.args.port.now c.drive_new.new.core c.drive_new.new.port) size c.drive_new.ensures.work)

pub returns-clause-known : goal.returns-clause-known
returns-clause-known g c = fix-known c.tick_first.new.core c.drive_new.new.core 0 c.args.page c.drive_new.result c.drive_new.ensures.outcome
