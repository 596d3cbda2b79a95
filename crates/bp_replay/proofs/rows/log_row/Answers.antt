-- The log was marked, or the row was refused.
use Rattle.bp_replay.proofs.PieceSteps.{log-drives}
use Rattle.bp_replay.proofs.RowCauses.{log-row-caused}
use Rattle.bp_replay.proofs.rows.log_row.Goals as goal

pub returns : goal.returns
returns g c = record { outcome = log-drives _ _ _ _ _ _ c.mark.ensures.outcome; cause = log-row-caused _ _ _ _ _ c.mark.ensures.outcome }
