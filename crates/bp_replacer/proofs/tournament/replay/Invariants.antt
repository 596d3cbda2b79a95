use Rattle.std.proofs.Common.{◌≡◌, ◌*◌, ◌<◌, ◌≤◌, length}
use Rattle.bp_replacer.specs.Tree.{blocks, node}
use Rattle.bp_replacer.specs.Replay.{IsWonUpTo}
use Rattle.bp_replacer.proofs.tournament.replay.Given as goal

abbrev pub invariant-loop-at : goal.invariant-loop-at
invariant-loop-at l = record {
  positive : 1 ≤ l.at;
  in_range : l.at < 2 * blocks (length l.seats);
  has : l.first ≡ node l.nodes l.at;
  changed : IsWonUpTo l.nodes l.seats l.seat l.at;
}

abbrev pub decreases-loop-at : goal.decreases-loop-at
decreases-loop-at l = l.at
