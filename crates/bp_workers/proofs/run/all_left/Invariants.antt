-- What was taken in so far, of the first job on.
use Rattle.std.proofs.Common.{◌+◌, ◌≤◌, length, vec_len, vec_capacity}
use Rattle.std.specs.Vec.Iter.{into_iter_items}
use Rattle.bp_workers.specs.Jobs.{AreNumbered}
use Rattle.bp_workers.proofs.Lining.{Beside, IsLeftAt}
use Rattle.bp_workers.proofs.run.all_left.Given as goal

abbrev pub invariant-loop-job : goal.invariant-loop-job
invariant-loop-job g l = record {
  numbered : AreNumbered (length l.left.items) (into_iter_items l.job-iterator);
  made : Beside (IsLeftAt g.N.PoolName.parameters g.P.Port.geometry_of g.N.PoolName.past l.pool.past) l.fn.jobs.items (into_iter_items l.job-iterator) l.left.items;
  room : vec_len l.left + length (into_iter_items l.job-iterator) ≤ vec_capacity l.left;
}
