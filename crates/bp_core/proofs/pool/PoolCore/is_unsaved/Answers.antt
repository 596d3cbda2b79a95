use Rattle.bp_core.proofs.Held.{away-saved}
use Rattle.bp_core.proofs.pool.PoolCore.is_unsaved.Goals as goal

pub returns-in-None : goal.returns-in-None
returns-in-None g c = away-saved _ _ c.keeps_the_rules.ensures.legal c.args.page c.in-None.ensures.away
