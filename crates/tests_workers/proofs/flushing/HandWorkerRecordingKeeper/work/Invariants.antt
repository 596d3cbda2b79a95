-- The session is that client's still.
use Rattle.std.proofs.Common.{◌≡◌}
use Rattle.tests_workers.proofs.flushing.HandWorkerRecordingKeeper.work.Given as goal

abbrev pub invariant-loop-turn : goal.invariant-loop-turn
invariant-loop-turn g l = l.client.session.client ≡ l.initial.client.session.client
