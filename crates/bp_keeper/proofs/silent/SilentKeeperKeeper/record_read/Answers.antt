use Rattle.bp_trail.proofs.Replies.{adds_nothing, counts_nothing}
use Rattle.bp_keeper.proofs.silent.SilentKeeperKeeper.record_read.Goals as goal

pub invariant_of-self : goal.invariant_of-self
invariant_of-self c = (c.self.invariant.0, counts_nothing _ _ _ _ c.then_shown-self-inside.ensures c.self.invariant.1 (adds_nothing _))
