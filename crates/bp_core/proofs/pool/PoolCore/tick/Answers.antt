use Rattle.std.proofs.Common.{arith}
use Rattle.bp_core.specs.CoreView.{HasRoomFor}
use Rattle.bp_core.proofs.Keeps.{keeps-tick}
use Rattle.bp_core.proofs.pool.PoolCore.tick.Goals as goal

pub invariant_of-self : goal.invariant_of-self
invariant_of-self g c =
    let room : HasRoomFor 1 c.args.self.now = omega (arith, c.free.ensures) in
    rw c.record.ensures (keeps-tick _ _ _ c.self.invariant _ c.self.view_is c.args.client c.args.n c.requires.client_in (omega (arith, c.self.invariant.agrees.observed.clock_is, c.self.invariant.agrees.in_time)) room)
