use Rattle.std.proofs.Common.{◌∙◌, ◌++◌, ap, get_or, sym}
use Rattle.bp_sweep.specs.Sweeping.{plans_with}
use Rattle.bp_sweep.proofs.Sweeping.{plans-next}
use Rattle.bp_sweep.proofs.plans.plans_of.Goals as goal

pub loop-count-preserved : goal.loop-count-preserved
loop-count-preserved c =
    c.in_ok-add_plans.ensures ∙ ap (λ plans. plans ++ plans_with (get_or c.args.frames.now c.loop-count.count-index 0) c.args.ks.now c.args.correlated) c.loop-count.invariant
    ∙ sym (plans-next c.args.frames.now c.loop-count.count-index c.args.ks.now c.args.correlated c.loop-count-test.true)
