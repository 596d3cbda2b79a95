use Rattle.example_log.proofs.Pools.{pool-left}
use Rattle.example_log.proofs.redo.a_stopped_pool_may_be_redone.Goals as goal

pub returns : goal.returns
returns c = pool-left
