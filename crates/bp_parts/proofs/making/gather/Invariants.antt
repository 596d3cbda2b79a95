-- The clients so far, and the lists that are left.
use Rattle.std.proofs.Common.{◌≡◌, ◌+◌, length, vec_len}
use Rattle.std.specs.Vec.Iter.{into_iter_items}
use Rattle.bp_parts.specs.Making.{new_clients, new_in_parts}
use Rattle.bp_parts.proofs.Placing.{AtPlacesFrom}
use Rattle.bp_parts.proofs.making.gather.Given as goal

abbrev pub invariant-loop-row : goal.invariant-loop-row
invariant-loop-row g l = record {
  rest : AtPlacesFrom (λ client row. row.items ≡ new_in_parts g.N.PartCount.parts client) l.client (into_iter_items l.row-iterator);
  counted : l.client + length (into_iter_items l.row-iterator) ≡ vec_len l.fn.rows;
  made : l.sessions.items ≡ new_clients g.N.PartCount.parts l.client;
}
