use Rattle.std.proofs.Common.{◌-◌, length}
use Rattle.bp_frames.proofs.page_set.+put.Given as goal

abbrev pub decreases-put : goal.decreases-put
decreases-put l = length l.rows.now - l.level
