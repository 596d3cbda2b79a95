use Rattle.std.proofs.Common.{◌≡◌, ◌∙◌, ◌<◌, length, sym, ap, subst, arith}
use Rattle.std.proofs.lemmas.List.{length-set}
use Rattle.bp_references.specs.Candidates.{Candidate}
use Rattle.bp_replacer.specs.Seats.{IsFirst}
use Rattle.bp_replacer.proofs.YoungLaws.{taken_others, taken_less, settled_covered, settled_early, settled_none_below, settled_no_more, settled_less, first_stands, held_first, hand_alone}
use Rattle.bp_replacer.proofs.lagging_tree.LaggingTree.first_before.Goals as goal
use Rattle.bp_replacer.proofs.lagging_tree.LaggingTree.first_before.Goals.{After-settle}

many : (c : After-settle) → length c.take_below.new.self ≡ length c.loop-seat.self-inside.seats
many c = ap length c.in-Some.ensures.taken ∙ length-set c.loop-seat.self-inside.young c.in-Some.seat 0 ∙ c.loop-seat.invariant.covered.as_many

pub loop-seat-smaller : goal.loop-seat-smaller
loop-seat-smaller c =
    let i = c.loop-seat.self-inside in
    let v = c.loop-seat.invariant.covered in
    let e = c.in-Some.ensures in
    let less = taken_less i.young c.take_below.new.self c.in-Some.seat c.args.time e.in_range e.waited e.below e.taken in
    let no_more = settled_early i.tree c.take_below.new.self i.seats c.exchange-other.result c.args.time c.settle.new.tree c.settle.new.young v.length_is (many (goal.at.loop-seat-smaller c).After-settle) c.settle.ensures in
    omega (arith, less, no_more)

pub loop-seat-preserved : goal.loop-seat-preserved
loop-seat-preserved c =
    let i = c.loop-seat.self-inside in
    let v = c.loop-seat.invariant.covered in
    let x = c.exchange-other in
    let others = taken_others i.tree i.young c.take_below.new.self i.seats c.in-Some.seat i.hands x.new.self x.result c.in-Some.ensures.taken v x.ensures in
    record {
      same = c.loop-seat.invariant.same;
      covered = settled_covered i.tree c.take_below.new.self i.seats x.result c.args.time c.settle.new.tree c.settle.new.young v.length_is (many (goal.at.loop-seat-preserved c).After-settle) c.settle.ensures x.new.self others;
    }

pub returns-then-leads-clause-first : goal.returns-then-leads-clause-first
returns-then-leads-clause-first c =
    let i = c.loop-held.self-inside in
    let v = c.loop-held.invariant in
    held_first i.tree i.young i.seats i.hands v.covered c.args.time v.none_below c.first-in-loop-held.result c.first-held.result c.first-in-loop-held.ensures (c.leads.ensures c.if-leads.true) v.held

pub loop-held-smaller-in-loop-held : goal.loop-held-smaller-in-loop-held
loop-held-smaller-in-loop-held c =
    let i = c.loop-held.self-inside in
    let v = c.loop-held.invariant.covered in
    let s = c.settle-in-loop-held in
    let no_more = settled_no_more i.tree i.young i.seats c.in-Some-hiding.seat c.args.time s.new.tree s.new.young v.length_is v.as_many s.ensures in
    omega (arith, no_more)

pub loop-held-preserved-in-loop-held : goal.loop-held-preserved-in-loop-held
loop-held-preserved-in-loop-held c =
    let i = c.loop-held.self-inside in
    let v = c.loop-held.invariant.covered in
    let s = c.settle-in-loop-held in
    let seat = c.in-Some-hiding.seat in
    record {
      same = c.loop-held.invariant.same;
      covered = settled_covered i.tree i.young i.seats seat c.args.time s.new.tree s.new.young v.length_is v.as_many s.ensures i.hands (λ k free other. v.covers k free);
      none_below = settled_none_below i.tree i.young i.seats seat c.args.time s.new.tree s.new.young v.length_is v.as_many s.ensures c.loop-held.invariant.none_below;
      held = c.loop-held.invariant.held;
    }

pub returns-in_default-first_before-clause-first : goal.returns-in_default-first_before-clause-first
returns-in_default-first_before-clause-first c =
    let i = c.loop-held.self-inside in
    let v = c.loop-held.invariant in
    hand_alone i.tree i.young i.seats i.hands v.covered c.args.time v.none_below c.first-held.result c.in_default-first_before.ensures.none v.held

pub returns-then-same_seat-clause-first : goal.returns-then-same_seat-clause-first
returns-then-same_seat-clause-first c =
    let i = c.loop-held.self-inside in
    let v = c.loop-held.invariant in
    subst (IsFirst i.seats (λ (e : Candidate). e.1 < c.args.time)) (sym c.earlier.ensures)
    (first_stands i.tree i.young i.seats i.hands v.covered c.args.time v.none_below c.in-Some-first_before.seat c.find.result c.find-entry.result c.first-held.result c.in-Some-first_before.ensures.found c.find.ensures c.find-entry.ensures (sym c.same_seat.ensures ∙ c.if-same_seat.true) v.held)

pub loop-held-smaller : goal.loop-held-smaller
loop-held-smaller c =
    let i = c.loop-held.self-inside in
    let v = c.loop-held.invariant.covered in
    let found = c.in-Some-first_before.ensures.found in
    let s = c.settle-in-loop-held-2 in
    let less = settled_less i.tree i.young i.seats c.in-Some-first_before.seat c.args.time s.new.tree s.new.young v.length_is v.as_many s.ensures c.find.result c.find-entry.result (omega (arith, found.in_range, v.length_is)) c.find.ensures c.find-entry.ensures found.stands (sym c.same_seat.ensures ∙ c.if-same_seat.false) in
    omega (arith, less)

pub loop-held-preserved : goal.loop-held-preserved
loop-held-preserved c =
    let i = c.loop-held.self-inside in
    let v = c.loop-held.invariant.covered in
    let s = c.settle-in-loop-held-2 in
    let seat = c.in-Some-first_before.seat in
    record {
      same = c.loop-held.invariant.same;
      covered = settled_covered i.tree i.young i.seats seat c.args.time s.new.tree s.new.young v.length_is v.as_many s.ensures i.hands (λ k free other. v.covers k free);
      none_below = settled_none_below i.tree i.young i.seats seat c.args.time s.new.tree s.new.young v.length_is v.as_many s.ensures c.loop-held.invariant.none_below;
      held = c.loop-held.invariant.held;
    }
