-- The session is that client's still.
use Rattle.std.proofs.Common.{◌≡◌}
use Rattle.tests_workers.proofs.receipts.HandSharingWorkerRecordingKeeperLog.work.Given as goal

abbrev pub invariant-loop-byte : goal.invariant-loop-byte
invariant-loop-byte g l = l.client.session.client ≡ l.initial.client.session.client
