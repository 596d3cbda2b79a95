-- One part more is closed.
use Rattle.std.proofs.Common.{◌≡◌, ◌∙◌, ap, arith, refl, sym, subst, length}
use Rattle.std.specs.Vec.Iter.{into_iter_items}
use Rattle.bp_shared.specs.Closing.{ClosedPartValue}
use Rattle.bp_parts.proofs.Dealing.{none_each}
use Rattle.bp_parts.proofs.Placing.{AtPlacesFrom, each_pushed, from_first, longer, next_is, rest_are}
use Rattle.bp_parts.proofs.ending.close_each.Goals as goal

pub loop-part-init : goal.loop-part-init
loop-part-init g c =
    let none = ap length c.requires.empty in
    let gives = c.into_iter-part-iterator.ensures.into_iter_gives.0 in
    record {
      rest = subst (λ k. AtPlacesFrom (λ i part. part ≡ i) k (into_iter_items c.into_iter-part-iterator.result)) (sym none) (from_first (λ i part. part ≡ i) _ _ gives c.requires.parts);
      counted = omega (arith, none, ap length gives, c.args.parts.ok);
      closed = none_each (λ i (part : ClosedPartValue). part.part ≡ i) _ none;
      room = omega (arith, none, ap length gives, c.requires.room, c.args.parts.ok);
    }

pub loop-part-preserved : goal.loop-part-preserved
loop-part-preserved g c =
    let i = c.loop-part.invariant in
    let next = c.in-Some.ensures.steps.0 in
    let is = next_is (λ i part. part ≡ i) (length c.loop-part.closed.items) _ _ c.in-Some.part i.rest next in
    let adds = c.push_reserved.ensures.items in
    let more = longer _ _ c.close_part.result _ refl adds in
    record {
      rest = subst (λ k. AtPlacesFrom (λ i part. part ≡ i) k (into_iter_items c.next.new.self)) (sym more) (rest_are (λ i part. part ≡ i) (length c.loop-part.closed.items) _ _ c.in-Some.part i.rest next);
      counted = omega (arith, i.counted, more, ap length next);
      closed = each_pushed (λ i (part : ClosedPartValue). part.part ≡ i) _ _ c.close_part.result _ refl adds i.closed (c.close_part.ensures ∙ is);
      room = omega (arith, i.room, more, ap length next, c.push_reserved.ensures.capacity);
    }

pub push_reserved-requires : goal.push_reserved-requires
push_reserved-requires g c =
    let i = c.loop-part.invariant in
    omega (arith, i.room, ap length c.in-Some.ensures.steps.0, c.loop-part.closed.ok)

pub returns-clause-count : goal.returns-clause-count
returns-clause-count g c =
    let i = c.loop-part.invariant in
    omega (arith, i.counted, c.in-None.ensures.steps.0, c.loop-part.part-iterator.rest.ok, c.loop-part.closed.ok)
