-- A line more, for which nothing was seen.
use Rattle.bp_shared.proofs.Telling.{earlier_opened}
use Rattle.bp_shared.proofs.locked_pool.LockedPool.receipt.Goals as goal

pub invariant_of-self : goal.invariant_of-self
invariant_of-self g c = (
  c.self.invariant.0,
  c.self.invariant.1,
  c.self.invariant.2,
  c.self.invariant.3,
  c.self.invariant.4,
  earlier_opened _ _ _ _ _ c.self.invariant.5 c.line.ensures,
)
