-- The jobs so far, with room for all, and the sessions, ports and the upkeep that are left.
use Rattle.std.proofs.Common.{◌≡◌, ◌+◌, ◌≤◌, All, length, vec_len, vec_capacity}
use Rattle.std.specs.Prelude.{zip}
use Rattle.std.specs.Vec.Iter.{into_iter_items}
use Rattle.bp_workers.specs.Workers.{held_upkeep, new_upkeep}
use Rattle.bp_workers.specs.Jobs.{IsOfPool}
use Rattle.bp_workers.specs.Runs.{IsNewJob}
use Rattle.bp_workers.proofs.Lining.{Beside, sessions_from}
use Rattle.bp_workers.proofs.run.make_jobs.Given as goal

abbrev pub invariant-loop-worker : goal.invariant-loop-worker
invariant-loop-worker g l = record {
  made : Beside IsNewJob (zip l.fn.workers.items l.fn.ports.items) (zip (into_iter_items l.worker-iterator) (into_iter_items l.ports)) l.jobs.items;
  sessions : into_iter_items l.sessions ≡ sessions_from (vec_len l.jobs) (length (into_iter_items l.worker-iterator));
  ports : length (into_iter_items l.ports) ≡ length (into_iter_items l.worker-iterator);
  of_pool : All (λ p. IsOfPool g.N.PoolName.parameters (g.P.Port.geometry_of p)) (into_iter_items l.ports);
  upkeep : held_upkeep l.upkeep ≡ new_upkeep (vec_len l.jobs);
  room : vec_len l.jobs + length (into_iter_items l.worker-iterator) ≤ vec_capacity l.jobs;
}
