-- What was taken of the jobs so far, and the jobs that are left.
use Rattle.std.proofs.Common.{◌≡◌, ◌+◌, ◌≤◌, length, vec_capacity}
use Rattle.std.specs.Vec.Iter.{into_iter_items}
use Rattle.bp_parts.proofs.Placing.{AtPlacesFrom}
use Rattle.bp_part_workers.proofs.Lining.{AreApartBelow, Stands}
use Rattle.bp_part_workers.proofs.run.take_apart.Given as goal

abbrev pub invariant-loop-job : goal.invariant-loop-job
invariant-loop-job g l = record {
  rest : AtPlacesFrom (Stands l.fn.jobs.items) (length l.sessions.items) (into_iter_items l.job-iterator);
  counted : length l.sessions.items + length (into_iter_items l.job-iterator) ≡ length l.fn.jobs.items;
  left : length l.left.items ≡ length l.sessions.items;
  room : length l.fn.jobs.items ≤ vec_capacity l.sessions;
  room_left : length l.fn.jobs.items ≤ vec_capacity l.left;
  apart : AreApartBelow (length l.sessions.items) l.fn.jobs.items l.sessions.items l.left.items;
}
