-- The scripts so far, and the rows that are left.
use Rattle.std.specs.Vec.Iter.{into_iter_items}
use Rattle.bp_replay.specs.Scripts.{lists}
use Rattle.bp_run.proofs.Splitting.{AreSplit}
use Rattle.bp_run.proofs.scripts.split.Given as goal

abbrev pub invariant-loop-row : goal.invariant-loop-row
invariant-loop-row l = AreSplit l.fn.clients (lists l.scripts.items) (into_iter_items l.row-iterator) l.fn.rows.items
