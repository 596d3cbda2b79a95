-- The purge, or its refusal.
use Rattle.bp_replay.proofs.PieceSteps.{purge-drives}
use Rattle.bp_replay.proofs.rows.purge_row.Goals as goal

pub returns-clause-outcome : goal.returns-clause-outcome
returns-clause-outcome g c = purge-drives _ _ _ _ _ c.in_ok-purge.ensures.outcome
