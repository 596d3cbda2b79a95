-- The jobs so far, with room for all, and the workers, sessions and ports that are left.
use Rattle.std.proofs.Common.{◌≡◌, ◌+◌, ◌≤◌, length, vec_capacity}
use Rattle.std.specs.Vec.Iter.{into_iter_items}
use Rattle.bp_parts.proofs.Placing.{AtPlacesFrom}
use Rattle.bp_part_workers.proofs.Lining.{AreNewBelow, IsGiven, IsNewClient, Stands}
use Rattle.bp_part_workers.proofs.run.make_jobs.Given as goal

abbrev pub invariant-loop-worker : goal.invariant-loop-worker
invariant-loop-worker g l = record {
  workers : AtPlacesFrom (Stands l.fn.workers.items) (length l.jobs.items) (into_iter_items l.worker-iterator);
  ports : AtPlacesFrom (IsGiven g.N.PartCount.parts g.N.PartNames.parameters l.fn.ports.items) (length l.jobs.items) (into_iter_items l.ports);
  sessions : AtPlacesFrom (IsNewClient g.N.PartCount.parts) (length l.jobs.items) (into_iter_items l.sessions);
  counted : length l.jobs.items + length (into_iter_items l.worker-iterator) ≡ length l.fn.workers.items;
  ports_left : length (into_iter_items l.ports) ≡ length (into_iter_items l.worker-iterator);
  sessions_left : length (into_iter_items l.sessions) ≡ length (into_iter_items l.worker-iterator);
  room : length l.fn.workers.items ≤ vec_capacity l.jobs;
  made : AreNewBelow g.N.PartCount.parts (length l.jobs.items) l.fn.workers.items l.fn.ports.items l.jobs.items;
}
