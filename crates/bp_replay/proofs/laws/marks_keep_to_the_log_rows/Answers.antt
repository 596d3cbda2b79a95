-- The bound that was tested is the bound row by row.
use Rattle.bp_replay.proofs.Ruling.{marks-by-rows}
use Rattle.bp_replay.proofs.laws.marks_keep_to_the_log_rows.Goals as goal

pub returns : goal.returns
returns a script trail said refusals cut theirs within = marks-by-rows script trail said refusals cut theirs within
