-- The cores so far, and the parts that are left, with their takers and log ends.
use Rattle.std.proofs.Common.{◌≡◌, ◌+◌, ◌≤◌, ℕ, length, vec_capacity, vec_len}
use Rattle.std.specs.Vec.Iter.{into_iter_items}
use Rattle.bp_parts.specs.Ending.{CoresOf, SameCores}
use Rattle.bp_parts.specs.Logs.{AreEndsOf}
use Rattle.bp_parts.proofs.Closing.{OwnEnd, OwnPart, OwnTaker}
use Rattle.bp_parts.proofs.Placing.{AtPlacesFrom}
use Rattle.bp_parts.proofs.ending.cores_of.Given as goal

abbrev pub invariant-loop-part : goal.invariant-loop-part
invariant-loop-part g l = record {
  rest : AtPlacesFrom (OwnPart l.fn.closed.items) (length l.cores.items) (into_iter_items l.part-iterator);
  takers : AtPlacesFrom (OwnTaker l.fn.takers.items) (length l.cores.items) (into_iter_items l.takers);
  ends : AtPlacesFrom (OwnEnd l.fn.ends.items) (length l.cores.items) (into_iter_items l.ends);
  counted : length l.cores.items + length (into_iter_items l.part-iterator) ≡ vec_len l.fn.closed;
  taken : length (into_iter_items l.takers) ≡ length (into_iter_items l.part-iterator);
  marked : length (into_iter_items l.ends) ≡ length (into_iter_items l.part-iterator);
  room : length l.cores.items + length (into_iter_items l.part-iterator) ≤ vec_capacity l.cores;
  same : SameCores l.fn.closed.items l.cores.items;
  cores : (raised : ℕ) → AreEndsOf g.N.PartNames.mark raised l.fn.ends.items → CoresOf g.N.PartNames.parameters g.N.PartNames.past raised l.fn.takers.items l.cores.items;
}
