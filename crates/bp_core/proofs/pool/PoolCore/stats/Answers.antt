use Rattle.bp_core.proofs.Counts.{counted}
use Rattle.bp_core.proofs.pool.PoolCore.stats.Goals as goal

pub returns : goal.returns
returns g c = counted _ _ _ c.self.invariant _ c.self.view_is _ c.totals.ensures c.len.ensures c.pinned.ensures c.unsaved.ensures c.len-2.ensures.count c.len-3.ensures.count
