use Rattle.bp_trail.proofs.Crashes.{checkpoint, older-sync, older-sync_stamped, checkpoint-recovers}
use Rattle.bp_trail.proofs.recovery.checkpoint_gives_a_redo_point.Goals as goal

pub returns-clause-point : goal.returns-clause-point
returns-clause-point c = checkpoint

pub returns-clause-recovered : goal.returns-clause-recovered
returns-clause-recovered c = checkpoint-recovers

pub returns-clause-asked_before : goal.returns-clause-asked_before
returns-clause-asked_before c = older-sync

pub returns-clause-asked_before_stamped : goal.returns-clause-asked_before_stamped
returns-clause-asked_before_stamped c = older-sync_stamped
