-- The trail goes on from what it was when the pool was made.
use Rattle.bp_shared.proofs.locked_pool.LockedPool.into_parts.Goals as goal

pub returns-clause-goes_on : goal.returns-clause-goes_on
returns-clause-goes_on g c = (c.self.invariant.2.since, c.self.invariant.2.goes_on)
