-- The session is that client's still.
use Rattle.std.proofs.Common.{◌≡◌}
use Rattle.tests_workers.proofs.looking.Looker.run.Given as goal

abbrev pub invariant-loop-round : goal.invariant-loop-round
invariant-loop-round g l = l.client.session.client ≡ l.initial.client.session.client
