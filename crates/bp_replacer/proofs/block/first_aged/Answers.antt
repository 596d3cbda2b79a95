use Rattle.std.proofs.Common.{◌+◌, ◌∙◌, sym, subst, arith}
use Rattle.bp_replacer.specs.declared.block.Leader.{Leader}
use Rattle.bp_replacer.specs.Seats.{seat_at}
use Rattle.bp_replacer.specs.Tree.{IsLeader}
use Rattle.bp_replacer.proofs.BlockLaws.{LeadsAged, aged_some, young_some, aged_more, aged_less, aged_block}
use Rattle.bp_replacer.proofs.block.first_aged.Goals as goal
use Rattle.bp_replacer.proofs.block.first_aged.Goals.{then-is_aged, else-is_aged}

pub loop-seat-preserved : goal.loop-seat-preserved
loop-seat-preserved c =
    let seats = c.args.seats.now in
    let seat = c.loop-seat.seat in
    let v = c.loop-seat.invariant in
    let here = seat_at seats seat in
    record {
      known = elim c.if-is_aged.branch [
        | then-is_aged w ↦ subst (IsLeader seats) (sym w.leader-is) w.or-leader.ensures.leads
        | else-is_aged w ↦ subst (IsLeader seats) (sym w.leader-is) v.known
      ];
      leads = elim c.if-is_aged.branch [
        | then-is_aged w ↦ subst (λ (l : Leader). LeadsAged seats c.args.block (seat + 1) c.args.time (seat_at seats l.seat)) (sym w.leader-is)
            (aged_more seats c.args.block seat c.args.time (seat_at seats c.loop-seat.leader.seat) (seat_at seats w.or-leader.result.seat) (omega (arith, c.loop-seat.auto.seat)) (omega (arith, c.loop-seat-test.true, c.end_of-end.ensures.end)) v.leads (aged_some c.args.time here (sym c.is_aged.ensures ∙ w.if-is_aged.true)) w.or-leader.ensures.first)
        | else-is_aged w ↦ subst (λ (l : Leader). LeadsAged seats c.args.block (seat + 1) c.args.time (seat_at seats l.seat)) (sym w.leader-is)
            (aged_less seats c.args.block seat c.args.time (seat_at seats c.loop-seat.leader.seat) v.leads (young_some c.args.time here (sym c.is_aged.ensures ∙ w.if-is_aged.false)))
      ];
    }

pub returns : goal.returns
returns c = aged_block c.args.seats.now c.args.block c.loop-seat.seat c.args.time (seat_at c.args.seats.now c.loop-seat.leader.seat) (omega (arith, c.loop-seat-test.false, c.end_of-end.ensures.end, c.len.ensures)) c.loop-seat.invariant.leads
