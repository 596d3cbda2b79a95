use Rattle.std.proofs.Common.{◌≡◌, ◌⊎◌, ℕ, ◌*◌, ◌<◌, ◌≤◌, length}
use Rattle.bp_replacer.specs.Seats.{seat_at}
use Rattle.bp_replacer.specs.Tree.{IsLeader}
use Rattle.bp_replacer.specs.Young.{since, AreAnew, IsKnown}
use Rattle.bp_replacer.proofs.BlockLaws.{Leads}
use Rattle.bp_replacer.proofs.tournament.copy_block.Given as goal

abbrev pub invariant-loop-seat : goal.invariant-loop-seat
invariant-loop-seat l = record {
  length_is : length l.known ≡ length l.seats;
  anew : AreAnew l.time l.young l.seats;
  known_is : (k : ℕ) → 16 * l.block ≤ k → k < l.seat → IsKnown (seat_at l.known k) (since l.young k) (seat_at l.seats k);
  same_known : (k : ℕ) → (k < 16 * l.block) ⊎ (l.seat ≤ k) → seat_at l.known k ≡ seat_at l.initial.known k;
  same_times : (k : ℕ) → (k < 16 * l.block) ⊎ (l.seat ≤ k) → since l.young k ≡ since l.initial.young k;
  known : IsLeader l.known l.leader;
  leads : Leads l.known l.block l.seat l.leader.seat;
}
