-- Those below have their session, and those from here on are as they were.
use Rattle.std.proofs.Common.{◌≡◌, ◌+◌, ◌<◌, ◌≤◌, ℕ, [], length, slice_index_or}
use Rattle.std.specs.Vec.Iter.{into_iter_items}
use Rattle.bp_shared.specs.Sessions.{new_session_of}
use Rattle.bp_parts.specs.Making.{new_in_parts}
use Rattle.bp_parts.proofs.Placing.{AtPlacesFrom}
use Rattle.bp_parts.proofs.making.deal.Given as goal

abbrev pub invariant-loop-client : goal.invariant-loop-client
invariant-loop-client g l = record {
  end : l.client-end ≡ length l.fn.rows.items;
  count : length l.rows.items ≡ length l.fn.rows.items;
  counted : l.client + length (into_iter_items l.sessions) ≡ length l.fn.rows.items;
  rest : AtPlacesFrom (λ client s. s ≡ new_session_of l.fn.part [] client) l.client (into_iter_items l.sessions);
  dealt : (i : ℕ) (d : _) → i < l.client → (slice_index_or l.rows.items i d).items ≡ new_in_parts (l.fn.part + 1) i;
  left : (i : ℕ) (d : _) → l.client ≤ i → i < length l.fn.rows.items → (slice_index_or l.rows.items i d).items ≡ new_in_parts l.fn.part i;
}
