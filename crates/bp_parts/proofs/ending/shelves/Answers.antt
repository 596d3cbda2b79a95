-- One list more.
use Rattle.std.proofs.Common.{◌≡◌, ◌≤◌, arith, refl, [], vec_capacity}
use Rattle.bp_parts.proofs.Placing.{each_pushed}
use Rattle.bp_parts.proofs.ending.shelves.Goals as goal

pub loop-preserved : goal.loop-preserved
loop-preserved g c =
    let i = c.loop.invariant in
    record {
      count = omega (arith, c.in-Ok.ensures.len, i.count);
      empty = each_pushed (λ _ shelf. (shelf.items ≡ []) × (c.args.parts ≤ vec_capacity shelf)) _ _ c.in_ok-shelf.shelf _ refl c.in-Ok.ensures.items i.empty (c.in_ok-shelf.ensures.items, omega (arith, c.in_ok-shelf.ensures.capacity));
    }
