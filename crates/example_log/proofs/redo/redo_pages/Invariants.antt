-- The pages so far are redone.
use Rattle.std.proofs.Common.{◌≡◌, List, reverse}
use Rattle.example_log.specs.Disk.{DeviceCall, Did}
use Rattle.example_log.specs.Steps.{RedoesEach}
use Rattle.example_log.proofs.redo.redo_pages.Given as goal

abbrev pub invariant-loop-page : goal.invariant-loop-page
invariant-loop-page g l = record {
  same : g.P.Port.geometry_of l.port ≡ g.P.Port.geometry_of l.initial.port;
  did : (calls : List DeviceCall) × Did g.P.Port.read_gives g.P.Port.write_gives g.P.Port.sync_gives l.initial.port calls l.port
      × RedoesEach (g.P.Port.geometry_of l.initial.port).size l.from (reverse l.log) l.page calls;
}
