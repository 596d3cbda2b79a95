use Rattle.bp_trail.proofs.Replies.{counts_next}
use Rattle.bp_keeper.proofs.silent.SilentKeeperKeeper.record.Goals as goal

pub invariant_of-self : goal.invariant_of-self
invariant_of-self c = (c.self.invariant.0, counts_next _ _ _ _ _ c.then_one-self-inside.ensures c.self.invariant.1 c.count.ensures)
