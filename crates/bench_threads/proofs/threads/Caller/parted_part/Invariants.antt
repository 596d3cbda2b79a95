-- The sessions are that client's still.
use Rattle.std.proofs.Common.{◌≡◌}
use Rattle.bench_threads.proofs.threads.Caller.parted_part.Given as goal

abbrev pub invariant-calls : goal.invariant-calls
invariant-calls g l = l.own.session.client ≡ l.initial.own.session.client
