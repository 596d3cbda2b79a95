use Rattle.std.proofs.Common.{◌-◌, length}
use Rattle.bp_frames.proofs.page_set.+first_from.Given as goal

abbrev pub decreases-first_from : goal.decreases-first_from
decreases-first_from l = length l.rows.now - l.level
