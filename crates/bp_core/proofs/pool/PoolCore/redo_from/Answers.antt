use Rattle.bp_core.proofs.Checkpoint.{redo-told}
use Rattle.bp_core.proofs.pool.PoolCore.redo_from.Goals as goal

pub returns-clause-least : goal.returns-clause-least
returns-clause-least g c = redo-told _ _ _ c.self.invariant _ c.self.view_is c.least_unsaved.result c.least_unsaved.ensures.least
