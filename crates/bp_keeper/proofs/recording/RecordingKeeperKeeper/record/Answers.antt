use Rattle.bp_trail.proofs.Replies.{counts_next}
use Rattle.bp_keeper.proofs.Newest.{newest}
use Rattle.bp_keeper.proofs.recording.RecordingKeeperKeeper.record.Goals as goal

pub invariant_of-self : goal.invariant_of-self
invariant_of-self c = counts_next _ _ _ _ _ (newest _ _ _ _ c.push_reserved.ensures.items) c.self.invariant c.count.ensures
