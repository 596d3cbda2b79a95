use Rattle.bp_core.proofs.Checkpoint.{next-told}
use Rattle.bp_core.proofs.pool.PoolCore.next_unsaved.Goals as goal

pub returns : goal.returns
returns g c = next-told _ _ _ c.self.invariant _ c.self.view_is c.args.from c.next_unsaved.result c.next_unsaved.ensures.found c.next_unsaved.ensures.none
