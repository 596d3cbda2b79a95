-- The line is written once more.
use Rattle.bp_shared.proofs.Telling.{line_earlier, earlier_seen}
use Rattle.bp_shared.proofs.locked_pool.LockedPool.end_line.Goals as goal

pub invariant_of-self : goal.invariant_of-self
invariant_of-self g c = (
  c.self.invariant.0,
  c.self.invariant.1,
  c.self.invariant.2,
  c.self.invariant.3,
  c.self.invariant.4,
  earlier_seen _ _ _ _ _ _ c.self.invariant.5 c.write.ensures,
)

pub returns-clause-older : goal.returns-clause-older
returns-clause-older g c = line_earlier _ _ _ _ _ _ _ c.self.invariant.5 c.write.ensures
