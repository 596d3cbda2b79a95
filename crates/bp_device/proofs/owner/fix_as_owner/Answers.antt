-- The work is that of the fix.
use Rattle.bp_device.proofs.Owning.{ticked-work, fix-known}
use Rattle.bp_device.proofs.Working.{work-join}
use Rattle.bp_device.proofs.owner.fix_as_owner.Goals as goal

pub returns-clause-work : goal.returns-clause-work
returns-clause-work g c =
    work-join _ _ c.args.core.now c.tick_first.new.core c.drive_fix.new.core c.args.port.now c.args.port.now c.drive_fix.new.port
    (ticked-work _ _ c.args.is_ticking c.args.core.now c.tick_first.new.core c.args.port.now c.in_ok-tick_first.ensures.ticked) c.drive_fix.ensures.work

pub returns-clause-known : goal.returns-clause-known
returns-clause-known g c = fix-known c.tick_first.new.core c.drive_fix.new.core 0 c.args.page c.drive_fix.result c.drive_fix.ensures.outcome
