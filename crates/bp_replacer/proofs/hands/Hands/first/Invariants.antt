use Rattle.std.proofs.Common.{◌≡◌}
use Rattle.bp_replacer.specs.Hands.{IsHeld}
use Rattle.bp_replacer.proofs.hands.Hands.first.Given as goal

abbrev pub invariant-loop-i : goal.invariant-loop-i
invariant-loop-i l = record {
  same : l.self-inside.seats ≡ l.initial.self-inside.seats;
  held : IsHeld l.seats l.self-inside.seats l.i l.time l.first;
}
