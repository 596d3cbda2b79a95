use Rattle.std.proofs.Common.{◌∙◌, ◌++◌, ap, reverse}
use Rattle.bp_trail.proofs.Replies.{counts_none}
use Rattle.bp_keeper.proofs.recording.RecordingKeeperKeeper.with_capacity.Goals as goal

pub invariant_of-result : goal.invariant_of-result
invariant_of-result c = counts_none _ _ (ap (λ xs. reverse xs ++ c.nothing.result.past) c.in_ok-with_capacity.ensures.items ∙ c.nothing.ensures) c.none.ensures
