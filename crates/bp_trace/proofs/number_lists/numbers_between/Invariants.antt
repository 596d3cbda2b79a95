-- The numbers so far, with those of the parts that are left.
use Rattle.std.proofs.Common.{◌≡◌, drop}
use Rattle.bp_trace.proofs.Listing.{and_then, numbers_of}
use Rattle.bp_trace.proofs.number_lists.numbers_between.Given as goal

abbrev pub invariant-loop-part : goal.invariant-loop-part
invariant-loop-part l = numbers_of l.fn.low l.fn.high l.parts ≡ and_then l.numbers.items (numbers_of l.fn.low l.fn.high (drop l.part-index l.parts))
