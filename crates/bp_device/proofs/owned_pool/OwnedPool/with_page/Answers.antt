-- The work is that of the fix.
use Rattle.std.proofs.Common.{subst, sym}
use Rattle.bp_core.specs.Work.{DoesWork}
use Rattle.bp_device.proofs.Owning.{back-work}
use Rattle.bp_device.proofs.Working.{work-join}
use Rattle.bp_device.proofs.owned_pool.OwnedPool.with_page.Goals as goal

pub returns-clause-work : goal.returns-clause-work
returns-clause-work g c =
    let reads = g.P.Port.read_gives in
    let writes = g.P.Port.write_gives in
    let old = c.args.self.now in
    work-join reads writes old.core c.self.inside.core c.look_by.new.core old.port c.self.inside.port c.self.inside.port
    (subst (λ v. DoesWork reads writes old.core old.port v.core v.port) (sym c.self.view_is) c.fix.ensures.work)
    (back-work reads writes c.self.inside.core c.look_by.new.core c.in_ok-pass.pass c.self.inside.port c.look_by.ensures.back)
