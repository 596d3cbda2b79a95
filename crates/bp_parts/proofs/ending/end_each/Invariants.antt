-- The sessions that ended, each in its part; those parts from here on are as they were.
use Rattle.std.proofs.Common.{◌≡◌, ◌+◌, ◌<◌, ◌≤◌, ℕ, length, slice_index_or, vec_capacity}
use Rattle.std.specs.Vec.Iter.{into_iter_items}
use Rattle.bp_shared.specs.Closing.{ClosedPartValue}
use Rattle.bp_shared.specs.Sessions.{SessionValue}
use Rattle.bp_session_log.specs.Books.{BookValue}
use Rattle.bp_parts.specs.Ending.{AreClosed, EndsIn}
use Rattle.bp_parts.proofs.Closing.{OwnSession}
use Rattle.bp_parts.proofs.Placing.{AtPlacesFrom}
use Rattle.bp_parts.proofs.ending.end_each.Given as goal

abbrev pub invariant-loop-session : goal.invariant-loop-session
invariant-loop-session g l = record {
  same : length l.closed.items ≡ length l.fn.closed.items;
  closed : AreClosed l.closed.items;
  rest : AtPlacesFrom (OwnSession l.fn.sessions.items) l.part (into_iter_items l.session-iterator);
  counted : l.part + length (into_iter_items l.session-iterator) ≡ length l.fn.closed.items;
  books : length l.books.items ≡ l.part;
  room : length l.fn.closed.items ≤ vec_capacity l.books;
  ended : (i : ℕ) (s : SessionValue) (o n : ClosedPartValue) (b : BookValue) → i < l.part
      → EndsIn g.N.PartNames.past (slice_index_or l.fn.sessions.items i s) (slice_index_or l.fn.closed.items i o) (slice_index_or l.closed.items i n) (slice_index_or l.books.items i b);
  left : (i : ℕ) (o n : ClosedPartValue) → l.part ≤ i → i < length l.fn.closed.items → slice_index_or l.closed.items i n ≡ slice_index_or l.fn.closed.items i o;
}
