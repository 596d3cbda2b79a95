-- One list more.
use Rattle.std.proofs.Common.{◌≡◌, arith, refl}
use Rattle.bp_parts.specs.Making.{new_in_parts}
use Rattle.bp_parts.proofs.Placing.{each_pushed}
use Rattle.bp_parts.proofs.making.empty_rows.Goals as goal

pub loop-preserved : goal.loop-preserved
loop-preserved g c =
    let i = c.loop.invariant in
    record {
      count = omega (arith, c.in-Ok.ensures.len, i.count);
      empty = each_pushed (λ client row. row.items ≡ new_in_parts 0 client) _ _ c.new.result _ refl c.in-Ok.ensures.items i.empty c.new.ensures.items;
    }
