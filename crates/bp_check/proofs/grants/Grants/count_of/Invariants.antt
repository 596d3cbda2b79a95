use Rattle.std.proofs.Common.{◌≡◌, ◌≤◌, take, reverse}
use Rattle.bp_trail.specs.Lists.{count}
use Rattle.bp_trail.specs.Passes.{is_of}
use Rattle.bp_check.proofs.grants.Grants.count_of.Given as goal

abbrev pub invariant-loop-given : goal.invariant-loop-given
invariant-loop-given l = (l.count ≡ count (is_of l.page) (reverse (take l.given-index l.given-items))) × (l.count ≤ l.given-index)
