-- The parts so far, and what is left.
use Rattle.std.proofs.Common.{◌≡◌, ◌+◌, All, length, vec_len}
use Rattle.std.specs.Vec.Iter.{into_iter_items}
use Rattle.bp_parts.specs.Logs.{AreEndsFrom}
use Rattle.bp_parts.specs.Making.{AreRows, IsNamed, IsNewCore, new_takers}
use Rattle.bp_parts.specs.Places.{up_to}
use Rattle.bp_parts.proofs.Placing.{AtPlacesFrom}
use Rattle.bp_parts.proofs.making.make_pools.Given as goal

abbrev pub invariant-loop-one : goal.invariant-loop-one
invariant-loop-one g l = record {
  named : AtPlacesFrom (IsNamed g.N.PartNames.mark g.N.PartNames.ring g.N.PartNames.parameters.clients) l.part (into_iter_items l.one-iterator);
  counted : l.part + length (into_iter_items l.one-iterator) ≡ vec_len l.fn.names;
  new : All (IsNewCore g.N.PartNames.parameters) (into_iter_items l.cores);
  each : length (into_iter_items l.cores) ≡ length (into_iter_items l.one-iterator);
  parts : l.parts.items ≡ up_to (λ part. part) l.part;
  takers : l.takers.items ≡ new_takers l.part;
  ends : AreEndsFrom g.N.PartNames.mark 0 0 l.part l.ends.items;
  as_many : length l.ends.items ≡ l.part;
  rows : AreRows l.part l.rows.items;
  clients : vec_len l.rows ≡ g.N.PartNames.parameters.clients;
}
