use Rattle.std.proofs.Common.{◌≡◌, ℕ, ◌+◌, ◌*◌, ◌/◌, ◌<◌, ◌≤◌, length}
use Rattle.bp_replacer.specs.Seats.{seat_at}
use Rattle.bp_replacer.specs.Tree.{blocks, node, IsFirstOfBlock}
use Rattle.bp_replacer.specs.Young.{since, AreAnew, IsKnown}
use Rattle.bp_replacer.proofs.tournament.copy_and_replay.Given as goal

abbrev pub invariant-loop-block : goal.invariant-loop-block
invariant-loop-block l = record {
  size : length l.nodes ≡ 2 * blocks (length l.seats);
  length_is : length l.known ≡ length l.seats;
  anew : AreAnew l.time l.young l.seats;
  known_is : (k : ℕ) → k / 16 < l.block → IsKnown (seat_at l.known k) (since l.young k) (seat_at l.seats k);
  not_yet : (k : ℕ) → l.block ≤ k / 16 → since l.young k ≡ 0;
  firsts : (b : ℕ) → b < l.block → IsFirstOfBlock l.known b (node l.nodes (blocks (length l.seats) + b));
}
