-- The session is that client's still.
use Rattle.std.proofs.Common.{◌≡◌}
use Rattle.soak.proofs.judging.Judging.run.Given as goal

abbrev pub invariant-rounds : goal.invariant-rounds
invariant-rounds g l = l.own.session.client ≡ l.initial.own.session.client
