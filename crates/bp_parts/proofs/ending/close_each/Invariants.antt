-- The parts that are closed, and those that are left.
use Rattle.std.proofs.Common.{◌≡◌, ◌+◌, ◌≤◌, length, vec_len, vec_capacity}
use Rattle.std.specs.Vec.Iter.{into_iter_items}
use Rattle.bp_parts.specs.Ending.{AreClosed}
use Rattle.bp_parts.proofs.Placing.{AtPlacesFrom}
use Rattle.bp_parts.proofs.ending.close_each.Given as goal

abbrev pub invariant-loop-part : goal.invariant-loop-part
invariant-loop-part g l = record {
  rest : AtPlacesFrom (λ i part. part ≡ i) (length l.closed.items) (into_iter_items l.part-iterator);
  counted : length l.closed.items + length (into_iter_items l.part-iterator) ≡ vec_len l.fn.parts;
  closed : AreClosed l.closed.items;
  room : length l.closed.items + length (into_iter_items l.part-iterator) ≤ vec_capacity l.closed;
}
