-- The session is that client's still.
use Rattle.std.proofs.Common.{◌≡◌}
use Rattle.tests_workers.proofs.receipts.HandSharingWorkerRecordingKeeperLog.lead.Given as goal

abbrev pub invariant-loop : goal.invariant-loop
invariant-loop g l = l.client.session.client ≡ l.initial.client.session.client
