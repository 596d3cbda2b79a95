-- The pages so far are written, the port is to the same device still, and it has counted nothing.
use Rattle.std.proofs.Common.{◌≡◌}
use Rattle.bp_ports.specs.WholeFiles.{WritesBlank}
use Rattle.bp_ports.proofs.new_files.blank_pages.Given as goal

abbrev pub invariant-loop-number : goal.invariant-loop-number
invariant-loop-number g l = record {
  device : l.port.device ≡ l.initial.port.device;
  headed : l.port.headed ≡ l.initial.port.headed;
  uncounted : l.port.failures ≡ l.initial.port.failures;
  written : WritesBlank g.S.Store.writes l.initial.port.headed l.initial.port.device.size l.number l.initial.port.store l.port.store;
}
