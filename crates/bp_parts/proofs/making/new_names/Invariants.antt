-- The names so far.
use Rattle.std.proofs.Common.{◌≡◌, All, vec_len}
use Rattle.bp_parts.specs.Making.{IsUnnamed}
use Rattle.bp_parts.proofs.making.new_names.Given as goal

abbrev pub invariant-loop : goal.invariant-loop
invariant-loop l = record {
  count : vec_len l.names ≡ l.counter;
  unnamed : All (IsUnnamed l.fn.clients) l.names.items;
}
