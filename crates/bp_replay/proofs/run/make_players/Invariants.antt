-- The players so far, and the scripts that are to come.
use Rattle.std.proofs.Common.{◌≡◌, ◌++◌, ◌+◌, ◌≤◌, length, vec_len}
use Rattle.std.specs.Vec.Iter.{into_iter_items}
use Rattle.bp_replay.specs.Scripts.{lists, EachCanPlay}
use Rattle.bp_replay.specs.Players.{new_players}
use Rattle.bp_replay.proofs.run.make_players.Given as goal

abbrev pub invariant-loop-script : goal.invariant-loop-script
invariant-loop-script l = record {
  made : l.players.items ++ new_players l.geometry (vec_len l.players) (lists (into_iter_items l.script-iterator)) ≡ new_players l.geometry 0 (lists l.fn.scripts.items);
  fits : EachCanPlay l.geometry (vec_len l.players) (lists (into_iter_items l.script-iterator));
  few : vec_len l.players + length (into_iter_items l.script-iterator) ≤ 64;
}
