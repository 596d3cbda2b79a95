-- The numbers so far, with those that are still to come.
use Rattle.std.proofs.Common.{◌≡◌, ◌-◌, ◌++◌}
use Rattle.bp_trace.specs.NumberLists.{doubled}
use Rattle.bp_trace.proofs.number_lists.doubled.Given as goal

abbrev pub invariant-loop : goal.invariant-loop
invariant-loop l = doubled 64 l.fn.first l.fn.last ≡ l.numbers.items ++ doubled (64 - l.counter) l.next l.fn.last
