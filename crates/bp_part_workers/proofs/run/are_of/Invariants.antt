-- The ports so far are to such stripes.
use Rattle.std.proofs.Common.{All, take}
use Rattle.bp_part_workers.specs.Runs.{IsPortOf}
use Rattle.bp_part_workers.proofs.run.are_of.Given as goal

abbrev pub invariant-loop-port : goal.invariant-loop-port
invariant-loop-port g l = All (IsPortOf l.config l.parts) (take l.port-index l.ports)
