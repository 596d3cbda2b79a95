-- The session is that client's still.
use Rattle.std.proofs.Common.{◌≡◌}
use Rattle.example_engine.proofs.AddingWorkerSilentKeeper.work.Given as goal

abbrev pub invariant-adds : goal.invariant-adds
invariant-adds g l = l.own.session.client ≡ l.initial.own.session.client

abbrev pub invariant-loop : goal.invariant-loop
invariant-loop g l = l.own.session.client ≡ l.initial.own.session.client
