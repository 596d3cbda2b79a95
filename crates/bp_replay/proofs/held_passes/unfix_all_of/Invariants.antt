use Rattle.bp_replay.specs.Rows.{GoingBack}
use Rattle.bp_replay.proofs.ClientPasses.{left_from}
use Rattle.bp_replay.proofs.held_passes.unfix_all_of.Given as goal

abbrev pub invariant-loop-note : goal.invariant-loop-note
invariant-loop-note g l = GoingBack l.initial.core l.held (left_from l.client l.held l.note-index) l.core
