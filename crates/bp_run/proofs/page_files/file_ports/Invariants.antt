use Rattle.std.proofs.Common.{◌≤◌, IfSome, vec_capacity}
use Rattle.bp_ports.specs.Ports.{has_headers}
use Rattle.bp_run.specs.AnyPort.{AreOf, IsPortTo}
use Rattle.bp_run.proofs.page_files.file_ports.Given as goal

abbrev pub invariant-loop : goal.invariant-loop
invariant-loop g l = record {
  are : AreOf l.fn.geometry (has_headers l.fn.format) l.counter l.ports.items;
  room : l.fn.clients ≤ vec_capacity l.ports;
  first : IfSome l.first (λ port. IsPortTo l.fn.geometry (has_headers l.fn.format) port);
}
