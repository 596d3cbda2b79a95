use Rattle.bp_trail.proofs.UsedAgain.{again-holds}
use Rattle.bp_trail.proofs.Redoing.{recovers-again}
use Rattle.bp_trail.proofs.Beyond.{recovers-unlogged}
use Rattle.bp_trail.proofs.recovery.redo_recovers_pages_used_again.Goals as goal

pub returns-clause-recovered : goal.returns-clause-recovered
returns-clause-recovered c = recovers-again

pub returns-clause-held : goal.returns-clause-held
returns-clause-held c = again-holds

pub returns-clause-unlogged : goal.returns-clause-unlogged
returns-clause-unlogged c = recovers-unlogged
