use Rattle.bp_replacer.specs.Seats.{seat_at}
use Rattle.bp_replacer.specs.Tree.{IsLeader}
use Rattle.bp_replacer.proofs.BlockLaws.{LeadsAged}
use Rattle.bp_replacer.proofs.block.first_aged.Given as goal

abbrev pub invariant-loop-seat : goal.invariant-loop-seat
invariant-loop-seat l = record {
  known : IsLeader l.seats l.leader;
  leads : LeadsAged l.seats l.block l.seat l.time (seat_at l.seats l.leader.seat);
}
