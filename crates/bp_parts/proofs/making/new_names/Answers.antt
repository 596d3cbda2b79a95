-- One more is made.
use Rattle.std.proofs.Common.{arith, ap}
use Rattle.bp_parts.specs.Making.{IsUnnamed}
use Rattle.bp_parts.proofs.Dealing.{all_more}
use Rattle.bp_parts.proofs.making.new_names.Goals as goal

pub loop-preserved : goal.loop-preserved
loop-preserved c =
    let i = c.loop.invariant in
    record {
      count = omega (arith, c.in-Ok-push.ensures.len, i.count);
      unnamed = all_more (IsUnnamed c.args.clients) _ _ c.in-Ok.one c.in-Ok-push.ensures.items i.unnamed (record { unused = ap (λ e. e.frontier) c.in-Ok.ensures.log_end; rings = c.in-Ok.ensures.rings });
    }
