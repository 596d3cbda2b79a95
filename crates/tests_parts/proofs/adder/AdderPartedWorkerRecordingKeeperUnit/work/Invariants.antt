-- The sessions are that client's still.
use Rattle.std.proofs.Common.{◌≡◌}
use Rattle.tests_parts.proofs.adder.AdderPartedWorkerRecordingKeeperUnit.work.Given as goal

abbrev pub invariant-uses : goal.invariant-uses
invariant-uses g l = l.client.session.client ≡ l.initial.client.session.client

abbrev pub invariant-flushes : goal.invariant-flushes
invariant-flushes g l = l.client.session.client ≡ l.initial.client.session.client
