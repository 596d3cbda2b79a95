use Rattle.std.proofs.Common.{arith}
use Rattle.bp_trail.proofs.Replies.{counts_none}
use Rattle.bp_keeper.proofs.silent.SilentKeeperListKeeper.empty.Goals as goal

pub invariant_of-result : goal.invariant_of-result
invariant_of-result c = (omega arith, counts_none _ _ c.nothing.ensures c.none.ensures)
