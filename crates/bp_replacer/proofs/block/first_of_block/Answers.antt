use Rattle.std.proofs.Common.{arith}
use Rattle.bp_replacer.proofs.BlockLaws.{leads_more}
use Rattle.bp_replacer.proofs.block.first_of_block.Goals as goal

pub loop-seat-preserved : goal.loop-seat-preserved
loop-seat-preserved c =
    let o = c.or-leader.ensures in
    record {
      known = o.leads;
      leads = leads_more c.args.seats.now c.args.block c.loop-seat.seat c.loop-seat.leader.seat c.or-leader.result.seat (omega (arith, c.loop-seat.auto.seat)) (omega (arith, c.loop-seat-test.true, c.end_of-end.ensures.end)) c.loop-seat.invariant.leads o.either o.first;
    }
