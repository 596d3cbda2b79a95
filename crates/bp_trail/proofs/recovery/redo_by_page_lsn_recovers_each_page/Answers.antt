use Rattle.bp_trail.proofs.Stamped.{by_lsn-is, recovers-by_lsn, recovers-bytes}
use Rattle.bp_trail.proofs.recovery.redo_by_page_lsn_recovers_each_page.Goals as goal

pub returns-clause-from_there : goal.returns-clause-from_there
returns-clause-from_there c = by_lsn-is

pub returns-clause-recovered : goal.returns-clause-recovered
returns-clause-recovered c = recovers-by_lsn

pub returns-clause-bytes : goal.returns-clause-bytes
returns-clause-bytes c = recovers-bytes
