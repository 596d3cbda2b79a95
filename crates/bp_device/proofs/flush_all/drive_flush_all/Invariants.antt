use Rattle.std.proofs.Common.{◌≡◌, ◌-◌}
use Rattle.bp_core.specs.Unsaved.{AreSaved}
use Rattle.bp_core.specs.Work.{DoesWork}
use Rattle.bp_device.specs.FlushAll.{FlushesEach}
use Rattle.bp_device.proofs.flush_all.drive_flush_all.Given as goal

-- the pages below the next one are saved
abbrev pub invariant-loop-page : goal.invariant-loop-page
invariant-loop-page g l = record {
  flushed : FlushesEach l.client l.initial.core l.from l.core;
  saved : AreSaved 0 l.from l.core.past;
  parameters : l.core.parameters ≡ l.initial.core.parameters;
  work : DoesWork g.P.Port.read_gives g.P.Port.write_gives l.initial.core l.initial.port l.core l.port;
  geometry : g.P.Port.geometry_of l.port ≡ g.P.Port.geometry_of l.initial.port;
}

abbrev pub decreases-loop-page : goal.decreases-loop-page
decreases-loop-page g l = l.initial.core.parameters.pages - l.from
