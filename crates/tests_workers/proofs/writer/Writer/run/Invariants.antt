-- The session is that client's still.
use Rattle.std.proofs.Common.{◌≡◌}
use Rattle.tests_workers.proofs.writer.Writer.run.Given as goal

abbrev pub invariant-loop-round : goal.invariant-loop-round
invariant-loop-round g l = l.client.session.client ≡ l.initial.client.session.client

abbrev pub invariant-loop-number : goal.invariant-loop-number
invariant-loop-number g l = l.client.session.client ≡ l.initial.client.session.client
