-- One entry, or none.
use Rattle.bp_replay.proofs.Once.{stays}
use Rattle.bp_replay.proofs.Stepping.{tick_said, tick_known}
use Rattle.bp_replay.proofs.steps.tick.Goals as goal

pub returns-clause-same : goal.returns-clause-same
returns-clause-same g c = stays _ _ _ _ _ c.tick.ensures.keeps

pub returns-clause-known : goal.returns-clause-known
returns-clause-known g c = tick_known _ _ _ _ _ c.tick.ensures.outcome

pub returns-clause-outcome : goal.returns-clause-outcome
returns-clause-outcome g c = tick_said _ _ _ _ _ c.tick.ensures.outcome
