-- The list so far is the pieces of the rows so far, and the trail was shown before each log row.
use Rattle.std.proofs.Common.{◌≡◌, ◌≤◌, reverse, take, vec_len, vec_capacity}
use Rattle.bp_trail.specs.HeldPasses.{held_passes}
use Rattle.bp_scripts.specs.LogBound.{logged}
use Rattle.bp_replay.specs.Steps.{Stays}
use Rattle.bp_replay.specs.Players.{PlaysRows}
use Rattle.bp_replay.proofs.Bounding.{Shown}
use Rattle.bp_replay.proofs.player.lead_rows.Given as goal

abbrev pub invariant-loop-row : goal.invariant-loop-row
invariant-loop-row g l = record {
  same : Stays l.initial.client.session l.client.session;
  plays : PlaysRows g.P.Port.read_gives g.P.Port.write_gives (take l.row-index l.script) l.client.session.said (reverse l.ends.items) l.refused.items l.initial.client.port l.client.port;
  log : l.log ≡ logged (take l.row-index l.script);
  shown : Shown (take l.row-index l.script) (reverse l.ends.items) l.client.session.said l.client.session.seen l.log;
  held : l.held.passes ≡ held_passes l.client.session.said;
  few_ends : vec_len l.ends ≤ l.row-index;
  few_refused : vec_len l.refused ≤ l.row-index;
  ends_capacity : vec_capacity l.ends ≡ vec_capacity l.initial.ends;
  refused_capacity : vec_capacity l.refused ≡ vec_capacity l.initial.refused;
}
