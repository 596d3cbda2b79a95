-- The sessions are that client's still.
use Rattle.std.proofs.Common.{◌≡◌}
use Rattle.bench_threads.proofs.parted.CallerPartedWorkerFileSilentKeeperUnit.work.Given as goal

abbrev pub invariant-first_parts : goal.invariant-first_parts
invariant-first_parts g l = l.own.session.client ≡ l.initial.own.session.client

abbrev pub invariant-parts : goal.invariant-parts
invariant-parts g l = l.own.session.client ≡ l.initial.own.session.client
