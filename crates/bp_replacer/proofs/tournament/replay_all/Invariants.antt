use Rattle.std.proofs.Common.{◌≤◌, length}
use Rattle.bp_replacer.specs.Tree.{blocks}
use Rattle.bp_replacer.specs.Replay.{IsWonFrom}
use Rattle.bp_replacer.proofs.tournament.replay_all.Given as goal

abbrev pub invariant-loop-at : goal.invariant-loop-at
invariant-loop-at l = record {
  in_range : l.at ≤ blocks (length l.seats);
  won : IsWonFrom l.nodes l.seats l.at;
}

abbrev pub decreases-loop-at : goal.decreases-loop-at
decreases-loop-at l = l.at
