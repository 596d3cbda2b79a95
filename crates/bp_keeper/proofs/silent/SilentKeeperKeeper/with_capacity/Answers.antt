use Rattle.bp_trail.proofs.Replies.{counts_none}
use Rattle.bp_keeper.proofs.silent.SilentKeeperKeeper.with_capacity.Goals as goal

pub invariant_of-result : goal.invariant_of-result
invariant_of-result c = (c.ranges.room.fits, counts_none _ _ c.nothing.ensures c.none.ensures)
