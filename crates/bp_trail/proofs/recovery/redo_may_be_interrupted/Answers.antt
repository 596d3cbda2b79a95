use Rattle.bp_trail.proofs.Crashes.{redo-cut_off, stopped-again}
use Rattle.bp_trail.proofs.Stamped.{by_lsn-cut_off}
use Rattle.bp_trail.proofs.recovery.redo_may_be_interrupted.Goals as goal

pub returns-clause-begun_again : goal.returns-clause-begun_again
returns-clause-begun_again c = redo-cut_off

pub returns-clause-stopped_again : goal.returns-clause-stopped_again
returns-clause-stopped_again c = stopped-again

pub returns-clause-begun_again_by_page_lsn : goal.returns-clause-begun_again_by_page_lsn
returns-clause-begun_again_by_page_lsn c = by_lsn-cut_off
