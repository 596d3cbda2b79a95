use Rattle.bp_trail.proofs.Replies.{adds_nothing, counts_nothing}
use Rattle.bp_keeper.proofs.Newest.{newest}
use Rattle.bp_keeper.proofs.recording.RecordingKeeperKeeper.record_read.Goals as goal

pub invariant_of-self : goal.invariant_of-self
invariant_of-self c = counts_nothing _ _ _ _ (newest _ _ _ _ c.push_reserved.ensures.items) c.self.invariant (adds_nothing _)
