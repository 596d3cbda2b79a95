use Rattle.std.proofs.Common.{◌≤◌, false, vec_capacity}
use Rattle.bp_run.specs.AnyPort.{AreOf}
use Rattle.bp_run.proofs.page_files.memory_ports.Given as goal

abbrev pub invariant-loop : goal.invariant-loop
invariant-loop l = AreOf l.device false l.counter l.ports.items × (l.fn.clients ≤ vec_capacity l.ports)
