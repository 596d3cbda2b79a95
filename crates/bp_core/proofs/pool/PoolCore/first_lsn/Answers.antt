use Rattle.bp_core.proofs.Held.{away-first}
use Rattle.bp_core.proofs.pool.PoolCore.first_lsn.Goals as goal

pub returns-in-None : goal.returns-in-None
returns-in-None g c = away-first _ _ c.keeps_the_rules.ensures.legal c.args.page c.in-None.ensures.away
