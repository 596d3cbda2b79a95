-- No number so far stands twice.
use Rattle.std.proofs.Common.{◌≡◌, length}
use Rattle.bp_trace.specs.NumberLists.{has_repeats}
use Rattle.bp_trace.proofs.number_lists.has_repeats.Given as goal

abbrev pub invariant-loop-first : goal.invariant-loop-first
invariant-loop-first l = has_repeats l.fn.numbers ≡ has_repeats l.left

abbrev pub decreases-loop-first : goal.decreases-loop-first
decreases-loop-first l = length l.left
