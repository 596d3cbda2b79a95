-- The changes so far are those that stand before the rest.
use Rattle.std.proofs.Common.{length}
use Rattle.example_log.proofs.CommitsRead.{Reads}
use Rattle.example_log.proofs.reading.read_changes.Given as goal

abbrev pub invariant-loop-rest : goal.invariant-loop-rest
invariant-loop-rest l = Reads l.lsn l.payload l.rest l.initial.into.items l.into.items

abbrev pub decreases-loop-rest : goal.decreases-loop-rest
decreases-loop-rest l = length l.rest
