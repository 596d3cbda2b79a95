use Rattle.std.proofs.Common.{◌≡◌, ◌+◌, ◌-◌}
use Rattle.bp_replacer.specs.Hands.{IsHeld}
use Rattle.bp_replacer.specs.Young.{NoneBelow, AreCovered, astray}
use Rattle.bp_replacer.proofs.YoungLaws.{count_early}
use Rattle.bp_replacer.proofs.lagging_tree.LaggingTree.first_before.Given as goal

abbrev pub invariant-loop-seat : goal.invariant-loop-seat
invariant-loop-seat l = record {
  same : l.self-inside.seats ≡ l.initial.self-inside.seats;
  covered : AreCovered l.self-inside.tree l.self-inside.young l.self-inside.seats l.self-inside.hands;
}

abbrev pub decreases-loop-seat : goal.decreases-loop-seat
decreases-loop-seat l = count_early l.time l.self-inside.young

abbrev pub invariant-loop-held : goal.invariant-loop-held
invariant-loop-held l = record {
  same : l.self-inside.seats ≡ l.initial.self-inside.seats;
  covered : AreCovered l.self-inside.tree l.self-inside.young l.self-inside.seats l.self-inside.hands;
  none_below : NoneBelow l.self-inside.young l.time;
  held : IsHeld l.self-inside.seats l.self-inside.hands 4 l.time l.held;
}

abbrev pub decreases-loop-held : goal.decreases-loop-held
decreases-loop-held l = astray l.self-inside.tree l.self-inside.seats + (16 - l.moved)
