-- What was added so far; the list of none that is to come was cut.
use Rattle.std.proofs.Common.{◌≡◌, [], All, map}
use Rattle.std.specs.Vec.Iter.{into_iter_items}
use Rattle.bp_replay.specs.Scripts.{lists}
use Rattle.bp_replay.specs.Players.{left_value}
use Rattle.bp_replay.proofs.Adding.{SoFar}
use Rattle.bp_replay.proofs.collecting.collect.Given as goal

abbrev pub invariant-loop-one : goal.invariant-loop-one
invariant-loop-one g l = record {
  so_far : SoFar (map left_value l.fn.left.items) (map left_value (into_iter_items l.one-iterator)) (lists l.said.items) l.refused.items l.ports.items;
  uncut : All (λ one. one.book.before ≡ []) (into_iter_items l.one-iterator);
}
