-- A ring that is not asked shows no pass; nothing came out when another was looked into.
use Rattle.std.proofs.Common.{arith, rules}
use Rattle.bp_session_log.proofs.Drains.{drains_looked, drains_none}
use Rattle.bp_session_log.proofs.draining.drain.Goals as goal

pub returns-then-cached_slots-eq0-clause-drained : goal.returns-then-cached_slots-eq0-clause-drained
returns-then-cached_slots-eq0-clause-drained g c = drains_none _ _ _ _ (omega (arith, c.cached_slots.ensures, c.if-cached_slots-eq0.true))

pub returns-clause-drained : goal.returns-clause-drained
returns-clause-drained g c = drains_looked _ _ _ _ _ _ _ (search rules) (search rules) c.drain_known.ensures.drained
