use Rattle.std.proofs.Common.{arith}
use Rattle.bp_core.specs.CoreView.{HasRoomFor}
use Rattle.bp_core.proofs.Keeps.{keeps-mark}
use Rattle.bp_core.proofs.pool.PoolCore.mark.Goals as goal

pub invariant_of-self : goal.invariant_of-self
invariant_of-self g c =
    let room : HasRoomFor 1 c.args.self.now = omega (arith, c.free.ensures) in
    rw (c.record.ensures, c.max-self-inside.ensures) (keeps-mark _ _ _ c.self.invariant _ c.self.view_is c.args.client c.args.lsn c.requires.client_in room)
