use Rattle.bp_core.proofs.Keeps.{keeps-quiet}
use Rattle.bp_core.proofs.pool.PoolCore.record_unchanged.Goals as goal

pub invariant_of-self : goal.invariant_of-self
invariant_of-self g c =
    rw c.record.ensures (keeps-quiet _ _ _ c.self.invariant _ c.self.view_is c.args.client c.args.call c.args.reply c.requires.quiet c.requires.client_in c.requires.allowed c.requires.reply c.requires.room)
