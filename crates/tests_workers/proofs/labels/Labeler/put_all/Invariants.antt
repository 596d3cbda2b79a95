-- The session is that client's still.
use Rattle.std.proofs.Common.{◌≡◌}
use Rattle.tests_workers.proofs.labels.Labeler.put_all.Given as goal

abbrev pub invariant-loop-number : goal.invariant-loop-number
invariant-loop-number g l = l.client.session.client ≡ l.initial.client.session.client
