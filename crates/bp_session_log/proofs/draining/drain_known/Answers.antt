-- One pass after another.
use Rattle.std.proofs.Common.{refl, ◌∙◌}
use Rattle.bp_session_log.proofs.Drains.{takes_none, takes_more}
use Rattle.bp_session_log.proofs.draining.drain_known.Goals as goal

pub loop-init : goal.loop-init
loop-init g c = record { parameters = refl; before = refl; takes = takes_none _ _ _ }

pub loop-preserved : goal.loop-preserved
loop-preserved g c =
    let i = c.loop.invariant in
    let one = c.unfix_front.ensures in
    record {
      parameters = one.parameters ∙ i.parameters;
      before = one.before ∙ i.before;
      takes = takes_more _ _ _ _ _ _ _ _ _ i.takes refl c.if-not-unfix_front.ensures.front;
    }
