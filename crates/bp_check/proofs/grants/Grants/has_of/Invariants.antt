use Rattle.std.proofs.Common.{◌≡◌, take, false, reverse}
use Rattle.bp_trail.specs.Lists.{some}
use Rattle.bp_trail.specs.Passes.{is_of}
use Rattle.bp_check.proofs.grants.Grants.has_of.Given as goal

abbrev pub invariant-loop-given : goal.invariant-loop-given
invariant-loop-given l = some (is_of l.page) (reverse (take l.given-index l.given-items)) ≡ false
