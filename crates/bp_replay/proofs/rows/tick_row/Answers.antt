-- The clock moved, or the row was refused.
use Rattle.bp_replay.proofs.PieceSteps.{tick-drives}
use Rattle.bp_replay.proofs.RowCauses.{tick-row-caused}
use Rattle.bp_replay.proofs.rows.tick_row.Goals as goal

pub returns : goal.returns
returns g c = record { outcome = tick-drives _ _ _ _ _ _ c.tick.ensures.outcome; cause = tick-row-caused _ _ _ _ _ c.tick.ensures.outcome }
