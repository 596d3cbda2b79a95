use Rattle.bp_trail.proofs.Replies.{counts_next}
use Rattle.bp_keeper.proofs.silent.SilentKeeperListKeeper.record_load.Goals as goal

pub invariant_of-self : goal.invariant_of-self
invariant_of-self c = (c.self.invariant.0, counts_next _ _ _ _ _ c.then_shown-self-inside.ensures c.self.invariant.1 c.count.ensures)
