-- The commits so far are those that stand before the rest.
use Rattle.std.proofs.Common.{length}
use Rattle.example_log.proofs.CommitsRead.{Finds}
use Rattle.example_log.proofs.reading.read_log.Given as goal

abbrev pub invariant-loop-next : goal.invariant-loop-next
invariant-loop-next l = Finds l.fn.head l.bytes l.found.lsn l.last l.changes.items l.rest

abbrev pub decreases-loop-next : goal.decreases-loop-next
decreases-loop-next l = length l.rest
