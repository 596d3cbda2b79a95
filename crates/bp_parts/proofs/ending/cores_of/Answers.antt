-- One core more.
use Rattle.std.proofs.Common.{◌≡◌, ◌∙◌, ◌<◌, ap, arith, refl, sym, subst, length}
use Rattle.std.proofs.lemmas.Bool.{false≢true}
use Rattle.std.proofs.lemmas.List.{get_or_default}
use Rattle.std.specs.Vec.Iter.{into_iter_items}
use Rattle.bp_trail.specs.Legal.{Legal}
use Rattle.bp_mark.specs.Marks.{LogEndValue}
use Rattle.bp_parts.proofs.Closing.{OwnEnd, OwnPart, OwnTaker, cores_more, same_more, stands_each}
use Rattle.bp_parts.proofs.Placing.{AtPlacesFrom, from_first, longer, next_is, rest_are}
use Rattle.bp_parts.proofs.ending.cores_of.Goals as goal

pub loop-part-init : goal.loop-part-init
loop-part-init g c =
    let none = ap length c.requires.empty in
    let parts = c.into_iter-part-iterator.ensures.into_iter_gives.0 in
    let takers = c.into_iter-takers.ensures.rest in
    let ends = c.into_iter-ends.ensures.rest in
    record {
      rest = subst (λ k. AtPlacesFrom (OwnPart c.args.closed.items) k (into_iter_items c.into_iter-part-iterator.result)) (sym none) (from_first (OwnPart c.args.closed.items) _ _ parts (stands_each (λ i part. part.part ≡ i) _ c.requires.closed));
      takers = subst (λ k. AtPlacesFrom (OwnTaker c.args.takers.items) k (into_iter_items c.into_iter-takers.result)) (sym none) (from_first (OwnTaker c.args.takers.items) _ _ takers (stands_each (λ i taker. taker.part ≡ i) _ c.requires.takers));
      ends = subst (λ k. AtPlacesFrom (OwnEnd c.args.ends.items) k (into_iter_items c.into_iter-ends.result)) (sym none) (from_first (OwnEnd c.args.ends.items) _ _ ends (λ i d below e. get_or_default _ i e d below));
      counted = omega (arith, none, ap length parts, c.args.closed.ok);
      taken = omega (arith, ap length takers, ap length parts, c.requires.taken, c.args.takers.ok, c.args.closed.ok);
      marked = omega (arith, ap length ends, ap length parts, c.requires.marked, c.args.ends.ok, c.args.closed.ok);
      room = omega (arith, none, ap length parts, c.requires.room, c.args.closed.ok);
      same = λ i p d below. absurd (omega (arith, below, none));
      cores = λ raised are i t d below. absurd (omega (arith, below, none));
    }

pub loop-part-preserved : goal.loop-part-preserved
loop-part-preserved g c =
    let i = c.loop-part.invariant in
    let n = length c.loop-part.cores.items in
    let next = c.in-Some.ensures.steps.0 in
    let next_taker = c.in-Some-next.ensures.items in
    let next_end = c.in-Some-next-2.ensures.items in
    let part = next_is (OwnPart c.args.closed.items) n _ _ c.in-Some.part i.rest next in
    let taker = next_is (OwnTaker c.args.takers.items) n _ _ c.in-Some-next.taker i.takers next_taker in
    let end = next_is (OwnEnd c.args.ends.items) n _ _ c.in-Some-next-2.end i.ends next_end in
    let e = c.in-Ok.ensures in
    let adds = c.push_reserved.ensures.items in
    let more = longer _ _ c.in-Ok.core _ refl adds in
    let below : n < length c.args.ends.items = omega (arith, i.counted, ap length next, c.requires.marked, c.args.ends.ok) in
    record {
      rest = subst (λ k. AtPlacesFrom (OwnPart c.args.closed.items) k (into_iter_items c.next.new.self)) (sym more) (rest_are (OwnPart c.args.closed.items) n _ _ c.in-Some.part i.rest next);
      takers = subst (λ k. AtPlacesFrom (OwnTaker c.args.takers.items) k (into_iter_items c.next-in-loop-part.new.self)) (sym more) (rest_are (OwnTaker c.args.takers.items) n _ _ c.in-Some-next.taker i.takers next_taker);
      ends = subst (λ k. AtPlacesFrom (OwnEnd c.args.ends.items) k (into_iter_items c.next-in-loop-part-2.new.self)) (sym more) (rest_are (OwnEnd c.args.ends.items) n _ _ c.in-Some-next-2.end i.ends next_end);
      counted = omega (arith, i.counted, more, ap length next);
      taken = omega (arith, i.taken, ap length next, ap length next_taker);
      marked = omega (arith, i.marked, ap length next, ap length next_end);
      room = omega (arith, i.room, more, ap length next, c.push_reserved.ensures.capacity);
      same = same_more _ _ _ c.in-Some.part c.in-Ok.core i.same adds part.1 e.core;
      cores = λ raised are.
          let low = ap (λ (x : LogEndValue). x.frontier) (sym (end c.in-Some-next-2.end) ∙ are n c.in-Some-next-2.end (omega arith) below) in
          cores_more g.N.PartNames.parameters g.N.PartNames.past raised _ _ _ c.in-Some-next.taker c.in-Ok.core (i.cores raised are) adds taker.1 (record {
            parameters_are = e.parameters;
            legal = subst (λ p. Legal p c.in-Ok.core.past) e.parameters c.keeps_the_rules.ensures.legal;
            goes_on = e.goes_on;
            before_is = e.before;
            marked = omega (arith, e.seen, c.close.ensures.seen, c.close.ensures.frontier, low);
          });
    }

pub close-requires : goal.close-requires
close-requires g c =
    let i = c.loop-part.invariant in
    let n = length c.loop-part.cores.items in
    let part = next_is (OwnPart c.args.closed.items) n _ _ c.in-Some.part i.rest c.in-Some.ensures.steps.0 in
    let end = next_is (OwnEnd c.args.ends.items) n _ _ c.in-Some-next-2.end i.ends c.in-Some-next-2.ensures.items in
    let below : n < length c.args.ends.items = omega (arith, i.counted, ap length c.in-Some.ensures.steps.0, c.requires.marked, c.args.ends.ok) in
    let named = ap (λ (x : LogEndValue). x.mark) (sym (end c.in-Some-next-2.end) ∙ c.requires.ends.1 n c.in-Some-next-2.end (omega arith) below) in
    record {
      log_end = named ∙ ap g.N.PartNames.mark (sym part.0) ∙ sym c.in-Ok.ensures.mark;
      reader = c.in-Ok.ensures.reader ∙ sym c.in-Ok.ensures.mark;
    }

pub push_reserved-requires : goal.push_reserved-requires
push_reserved-requires g c =
    let i = c.loop-part.invariant in
    omega (arith, i.room, ap length c.in-Some.ensures.steps.0, c.loop-part.cores.ok)

pub returns-clause-count : goal.returns-clause-count
returns-clause-count g c =
    let i = c.loop-part.invariant in
    omega (arith, i.counted, c.in-None.ensures.steps.0, c.loop-part.part-iterator.rest.ok, c.loop-part.cores.ok)

pub unreachable-requires-in_default-into_core : goal.unreachable-requires-in_default-into_core
unreachable-requires-in_default-into_core g c =
    let i = c.loop-part.invariant in
    let n = length c.loop-part.cores.items in
    let part = next_is (OwnPart c.args.closed.items) n _ _ c.in-Some.part i.rest c.in-Some.ensures.steps.0 in
    let taker = next_is (OwnTaker c.args.takers.items) n _ _ c.in-Some-next.taker i.takers c.in-Some-next.ensures.items in
    false≢true (c.in_default-into_core.ensures.own (taker.0 ∙ sym part.0))
