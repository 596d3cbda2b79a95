-- The empty lists so far.
use Rattle.std.proofs.Common.{◌≡◌, vec_len}
use Rattle.bp_parts.specs.Ending.{AreShelves}
use Rattle.bp_parts.proofs.ending.shelves.Given as goal

abbrev pub invariant-loop : goal.invariant-loop
invariant-loop g l = record {
  count : vec_len l.made ≡ l.counter;
  empty : AreShelves l.fn.parts l.made.items;
}
