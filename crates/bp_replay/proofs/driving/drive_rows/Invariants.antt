use Rattle.std.proofs.Common.{◌≡◌, ◌≤◌, ◌+◌, length, vec_len, vec_capacity}
use Rattle.std.specs.Prelude.{take}
use Rattle.bp_replay.specs.Rows.{DrivesRowsCaused}
use Rattle.bp_core.specs.Work.{DoesWork}
use Rattle.bp_replay.proofs.driving.drive_rows.Given as goal

abbrev pub invariant-loop-row : goal.invariant-loop-row
invariant-loop-row g l = record {
  driven : DrivesRowsCaused l.initial.core (take l.row-index l.rows) l.refused.items l.held.passes l.core;
  few_held : length l.held.passes ≤ l.row-index;
  few_refused : vec_len l.refused ≤ l.row-index;
  held_room : length l.rows ≤ l.held.room + l.row-index;
  work : DoesWork g.P.Port.read_gives g.P.Port.write_gives l.initial.core l.initial.port l.core l.port;
  geometry : g.P.Port.geometry_of l.port ≡ g.P.Port.geometry_of l.initial.port;
  refused_room : vec_capacity l.refused ≡ vec_capacity l.initial.refused;
}
