use Rattle.std.proofs.Common.{vec_len}
use Rattle.bp_replay.specs.Rows.{GoingBack}
use Rattle.bp_replay.proofs.held_passes.unfix_all.Given as goal

abbrev pub invariant-loop-client : goal.invariant-loop-client
invariant-loop-client g l = GoingBack l.initial.core l.initial.held.items l.held.items l.core

abbrev pub decreases-loop-client : goal.decreases-loop-client
decreases-loop-client g l = vec_len l.held
