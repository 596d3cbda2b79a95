-- All ports so far are to the device.
use Rattle.std.proofs.Common.{◌≡◌, All}
use Rattle.scenario_sessions.proofs.runs.fuses.Given as goal

abbrev pub invariant-loop-client : goal.invariant-loop-client
invariant-loop-client l = record {
  geometry : All (λ p. p.inner.device ≡ l.fn.device) l.ports.items;
}
