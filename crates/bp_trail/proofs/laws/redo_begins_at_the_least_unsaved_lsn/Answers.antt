use Rattle.bp_trail.proofs.Redo.{first-unsaved, none-unsaved, redo-covers, redo-rises, redo-rises-dropped}
use Rattle.bp_trail.proofs.laws.redo_begins_at_the_least_unsaved_lsn.Goals as goal

pub returns-clause-unsaved : goal.returns-clause-unsaved
returns-clause-unsaved c = first-unsaved

pub returns-clause-none : goal.returns-clause-none
returns-clause-none c = none-unsaved

pub returns-clause-covers : goal.returns-clause-covers
returns-clause-covers c = redo-covers

pub returns-clause-rises : goal.returns-clause-rises
returns-clause-rises c = redo-rises

pub returns-clause-rises_by_discard : goal.returns-clause-rises_by_discard
returns-clause-rises_by_discard c = redo-rises-dropped
