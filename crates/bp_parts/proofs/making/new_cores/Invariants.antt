-- The cores so far.
use Rattle.std.proofs.Common.{◌≡◌, ◌<◌, All, vec_len}
use Rattle.bp_core.specs.Agreement.{parameters_with}
use Rattle.bp_core.specs.Outcomes.{IsFitUpTo}
use Rattle.bp_parts.specs.Making.{IsNewCore}
use Rattle.bp_parts.proofs.making.new_cores.Given as goal

abbrev pub invariant-loop : goal.invariant-loop
invariant-loop g l = record {
  count : vec_len l.cores ≡ l.counter;
  new : All (IsNewCore (parameters_with l.fn.config l.fn.clients)) l.cores.items;
  fit : 0 < l.counter → IsFitUpTo g.K.Keeper.MOST_ROOM (parameters_with l.fn.config l.fn.clients);
}
