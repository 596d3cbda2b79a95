use Rattle.std.proofs.Common.{◌-◌, sym, inl, inr, arith}
use Rattle.bp_replacer.proofs.PassLaws.{won_next}
use Rattle.bp_replacer.proofs.tournament.replay_all.Goals as goal

pub loop-at-preserved : goal.loop-at-preserved
loop-at-preserved c =
    let v = c.loop-at.invariant in
    let at = c.loop-at.at - 1 in
    record {
      in_range = omega arith;
      won = won_next c.loop-at.nodes c.args.seats.now c.loop-at.at at c.winner.result (omega arith) (omega arith) (omega arith) v.won (record {
        had = elim c.winner.ensures.either [ inl a ↦ inl (sym a) | inr b ↦ inr (sym b) ];
        won = c.winner.ensures.first;
      });
    }
