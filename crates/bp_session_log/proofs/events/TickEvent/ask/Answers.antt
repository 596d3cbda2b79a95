-- The core and the list get the tick.
use Rattle.std.proofs.Common.{refl, rules}
use Rattle.bp_session_log.proofs.Making.{makes_one}
use Rattle.bp_session_log.proofs.events.TickEvent.ask.Goals as goal

pub returns-clause-makes : goal.returns-clause-makes
returns-clause-makes g c = makes_one _ _ _ _ _ _ refl c.tell.ensures.told (search rules)
