-- What is known is never less than before.
use Rattle.std.proofs.Common.{◌≤◌}
use Rattle.tests_workers.proofs.following.FollowingDurableLog.reach.Given as goal

abbrev pub invariant-loop : goal.invariant-loop
invariant-loop g l = l.initial.self.known ≤ l.self.known
