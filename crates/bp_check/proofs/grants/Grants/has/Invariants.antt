use Rattle.std.proofs.Common.{◌≡◌, take, false, reverse}
use Rattle.bp_trail.specs.Event.{same_grant}
use Rattle.bp_trail.specs.Lists.{some}
use Rattle.bp_check.proofs.grants.Grants.has.Given as goal

abbrev pub invariant-loop-given : goal.invariant-loop-given
invariant-loop-given l = some (same_grant l.wanted) (reverse (take l.given-index l.given-items)) ≡ false
