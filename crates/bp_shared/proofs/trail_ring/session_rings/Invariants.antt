-- So many rings were made, through which nothing went.
use Rattle.std.proofs.Common.{◌≡◌, ◌≤◌, length, vec_len, vec_capacity}
use Rattle.bp_shared.specs.Posting.{AreRings}
use Rattle.bp_shared.proofs.trail_ring.session_rings.Given as goal

abbrev pub invariant-loop : goal.invariant-loop
invariant-loop l = record {
  rings : AreRings l.producers.items l.consumers.items;
  count : length l.producers.items ≡ l.counter;
  beside : vec_len l.consumers ≡ l.counter;
  room : l.fn.clients ≤ vec_capacity l.producers;
  room_beside : l.fn.clients ≤ vec_capacity l.consumers;
}
