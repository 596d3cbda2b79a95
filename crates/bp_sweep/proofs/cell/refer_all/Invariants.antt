use Rattle.std.proofs.Common.{◌≡◌}
use Rattle.std.specs.Prelude.{take}
use Rattle.bp_sweep.specs.Referring.{HasRun, IsTallied}
use Rattle.bp_sweep.proofs.cell.refer_all.Given as goal

abbrev pub invariant-loop-page : goal.invariant-loop-page
invariant-loop-page g l = record {
  run : HasRun l.initial.core (take l.page-index l.references) l.core;
  tallied : IsTallied l.core l.totals;
  geometry : g.P.Port.geometry_of l.port ≡ g.P.Port.geometry_of l.initial.port;
  done : l.done ≡ l.page-index;
}
