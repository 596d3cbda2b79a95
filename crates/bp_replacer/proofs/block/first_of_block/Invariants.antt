use Rattle.bp_replacer.specs.Tree.{IsLeader}
use Rattle.bp_replacer.proofs.BlockLaws.{Leads}
use Rattle.bp_replacer.proofs.block.first_of_block.Given as goal

abbrev pub invariant-loop-seat : goal.invariant-loop-seat
invariant-loop-seat l = record {
  known : IsLeader l.seats l.leader;
  leads : Leads l.seats l.block l.seat l.leader.seat;
}
