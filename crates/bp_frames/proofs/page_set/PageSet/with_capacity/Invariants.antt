use Rattle.std.proofs.Common.{◌-◌}
use Rattle.bp_frames.proofs.PageRows.{AreBuilt}
use Rattle.bp_frames.proofs.page_set.PageSet.with_capacity.Given as goal

abbrev pub invariant-loop-words : goal.invariant-loop-words
invariant-loop-words l = AreBuilt l.limit l.rows.items l.words

abbrev pub decreases-loop-words : goal.decreases-loop-words
decreases-loop-words l = l.words - 1
