-- The clients whose sessions ended, and those that are left.
use Rattle.std.proofs.Common.{◌≡◌, ◌+◌, ◌<◌, ◌≤◌, ℕ, [], length, slice_index_or, vec_capacity}
use Rattle.std.specs.Vec.Iter.{into_iter_items}
use Rattle.bp_parts.specs.Ending.{AreClosed, AreEnded}
use Rattle.bp_parts.proofs.Closing.{OwnClient}
use Rattle.bp_parts.proofs.Placing.{AtPlacesFrom}
use Rattle.bp_parts.proofs.ending.end_all.Given as goal

abbrev pub invariant-loop-client : goal.invariant-loop-client
invariant-loop-client g l = record {
  end : l.client-end ≡ length l.fn.books.items;
  closed : AreClosed l.closed.items;
  same : length l.closed.items ≡ length l.fn.closed.items;
  count : length l.books.items ≡ length l.fn.books.items;
  rest : AtPlacesFrom (OwnClient l.fn.sessions.items) l.client (into_iter_items l.sessions);
  counted : l.client + length (into_iter_items l.sessions) ≡ length l.fn.books.items;
  left : (i : ℕ) (d : _) → l.client ≤ i → i < length l.fn.books.items → ((slice_index_or l.books.items i d).items ≡ []) × (g.N.PartCount.parts ≤ vec_capacity (slice_index_or l.books.items i d));
  ended : AreEnded g.N.PartNames.past g.N.PartCount.parts l.client l.fn.sessions.items l.closed.items l.books.items;
}
