use Rattle.bp_run.proofs.Splitting.{none_in}
use Rattle.bp_run.proofs.scripts.empty_scripts.Goals as goal

pub returns-clause-empty : goal.returns-clause-empty
returns-clause-empty c = none_in c.loop.scripts.items c.loop.invariant.2
