-- The empty lists so far.
use Rattle.std.proofs.Common.{◌≡◌, vec_len}
use Rattle.bp_parts.specs.Making.{AreRows}
use Rattle.bp_parts.proofs.making.empty_rows.Given as goal

abbrev pub invariant-loop : goal.invariant-loop
invariant-loop g l = record {
  count : vec_len l.rows ≡ l.counter;
  empty : AreRows 0 l.rows.items;
}
