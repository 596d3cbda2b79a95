-- One session more ended, in its part.
use Rattle.std.proofs.Common.{◌≡◌, ◌∙◌, ◌<◌, ap, arith, refl, sym, subst, length, length-set}
use Rattle.bp_shared.specs.Closing.{ClosedPartValue}
use Rattle.bp_shared.specs.Telling.{IsListOf}
use Rattle.bp_parts.specs.Ending.{EndsIn}
use Rattle.std.proofs.lemmas.Bool.{false≢true}
use Rattle.std.proofs.lemmas.List.{get_or-set_other, get_or_default}
use Rattle.bp_parts.proofs.Closing.{OwnSession, ends_more, stands_each}
use Rattle.bp_parts.proofs.Placing.{each_set, from_first, longer, next_is, rest_are}
use Rattle.bp_parts.proofs.ending.end_each.Goals as goal

pub loop-session-init : goal.loop-session-init
loop-session-init g c = record {
  same = refl;
  closed = c.requires.closed;
  rest = from_first (OwnSession c.args.sessions.items) _ _ c.into_iter-session-iterator.ensures.into_iter_gives.0 (stands_each (λ i s. s.part ≡ i) _ (λ i d below. (c.requires.sessions.1 i d below).part_is));
  counted = omega (arith, ap length c.into_iter-session-iterator.ensures.into_iter_gives.0, c.requires.count, c.args.sessions.ok, c.args.closed.now.ok);
  books = ap length c.requires.empty;
  room = omega (arith, c.requires.room, c.args.closed.now.ok);
  ended = λ i s o n b below. absurd (omega (arith, below));
  left = λ i o n from below. get_or_default c.args.closed.now.items i n o below;
}

pub loop-session-preserved : goal.loop-session-preserved
loop-session-preserved g c =
    let i = c.loop-session.invariant in
    let next = c.in-Some.ensures.steps.0 in
    let stands = next_is (OwnSession c.args.sessions.items) c.loop-session.part _ _ c.in-Some.session i.rest next in
    let below : c.loop-session.part < length c.loop-session.closed.items = omega (arith, i.counted, ap length next, i.same) in
    let e = c.in-Ok.ensures in
    let stood = c.index_mut.ensures.value in
    let adds = c.push_reserved.ensures.items in
    let was = i.closed c.loop-session.part _ below in
    let ends : EndsIn g.N.PartNames.past c.in-Some.session c.index_mut.result.now c.end_session.new.self c.in-Ok.book = record {
      part_is = e.part;
      takes = e.takes;
      book_is = record {
        client_is = e.client;
        before_is = e.before;
        said_is = e.said;
        saw = e.seen;
        theirs = subst (λ n. IsListOf g.N.PartNames.past c.end_session.new.self.core.past n c.in-Ok.book.said) (sym e.client) (subst (IsListOf g.N.PartNames.past c.end_session.new.self.core.past c.in-Some.session.client) (sym e.said) e.theirs);
      };
    } in
    record {
      same = length-set c.loop-session.closed.items c.loop-session.part c.end_session.new.self ∙ i.same;
      closed = each_set (λ k (part : ClosedPartValue). part.part ≡ k) c.loop-session.part c.loop-session.closed.items c.end_session.new.self i.closed (e.part ∙ ap (λ (part : ClosedPartValue). part.part) stood ∙ was);
      rest = rest_are (OwnSession c.args.sessions.items) c.loop-session.part _ _ c.in-Some.session i.rest next;
      counted = omega (arith, i.counted, ap length next);
      books = longer _ _ c.in-Ok.book _ i.books adds;
      room = omega (arith, i.room, c.push_reserved.ensures.capacity);
      ended = ends_more g.N.PartNames.past c.loop-session.part _ _ _ _ _ c.in-Some.session c.index_mut.result.now c.end_session.new.self c.in-Ok.book i.ended below i.books adds stands.1 (λ o. sym (i.left c.loop-session.part o _ (omega arith) (omega (arith, below, i.same))) ∙ sym stood) ends;
      left = λ k o n from inside. get_or-set_other _ c.loop-session.part k c.end_session.new.self n (λ same. absurd (omega (arith, same, from))) ∙ i.left k o n (omega (arith, from)) inside;
    }

pub push_reserved-requires : goal.push_reserved-requires
push_reserved-requires g c =
    let i = c.loop-session.invariant in
    omega (arith, i.room, i.books, i.counted, ap length c.in-Some.ensures.steps.0, c.loop-session.books.ok)

pub returns-clause-ended : goal.returns-clause-ended
returns-clause-ended g c =
    let i = c.loop-session.invariant in
    λ k s o n b below. i.ended k s o n b (omega (arith, below, i.counted, c.in-None.ensures.steps.0, c.loop-session.session-iterator.rest.ok))

pub returns-clause-count : goal.returns-clause-count
returns-clause-count g c =
    let i = c.loop-session.invariant in
    omega (arith, i.books, i.counted, c.in-None.ensures.steps.0, c.loop-session.session-iterator.rest.ok, c.loop-session.books.ok, c.args.closed.now.ok)

pub unreachable-requires : goal.unreachable-requires
unreachable-requires g c =
    let i = c.loop-session.invariant in
    let next = c.in-Some.ensures.steps.0 in
    let below : c.loop-session.part < length c.loop-session.closed.items = omega (arith, i.counted, ap length next, i.same) in
    let stands = next_is (OwnSession c.args.sessions.items) c.loop-session.part _ _ c.in-Some.session i.rest next in
    false≢true (c.in_default.ensures.own (stands.0 ∙ sym (ap (λ (part : ClosedPartValue). part.part) c.index_mut.ensures.value ∙ i.closed c.loop-session.part _ below)))
