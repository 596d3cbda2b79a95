-- One client more.
use Rattle.std.proofs.Common.{◌≡◌, ◌∙◌, ◌<◌, ◌≤◌, ap, arith, refl, subst, [], length, length-set, vec_capacity, vec_len}
use Rattle.bp_parts.specs.Parts.{AreSessionsOf}
use Rattle.bp_parts.specs.Ending.{AreEnded}
use Rattle.bp_parts.proofs.Closing.{OwnClient, ended_more, ended_none, stands_each}
use Rattle.bp_parts.proofs.Placing.{from_first, next_is, rest_are, set_above}
use Rattle.bp_parts.proofs.ending.end_all.Goals as goal

pub loop-client-init : goal.loop-client-init
loop-client-init g c = record {
  end = omega (arith, c.len-client-end.ensures, c.args.books.now.ok);
  closed = c.requires.closed;
  same = refl;
  count = refl;
  rest = from_first (OwnClient c.args.sessions.items) _ _ c.into_iter-sessions.ensures.rest (stands_each (λ client s. s.client ≡ client) _ c.requires.clients);
  counted = omega (arith, ap length c.into_iter-sessions.ensures.rest, c.requires.count, c.args.sessions.ok, c.args.books.now.ok);
  left = λ i d from below. c.requires.books i d below;
  ended = ended_none _ _ _ _ _;
}

pub unreachable-requires : goal.unreachable-requires
unreachable-requires g c =
    let i = c.loop-client.invariant in
    absurd (omega (arith, c.in_default.ensures.cases.0, c.loop-client-test.true, i.end, i.counted))

pub loop-client-preserved : goal.loop-client-preserved
loop-client-preserved g c =
    let i = c.loop-client.invariant in
    let next = c.in-Some.ensures.items in
    let stands = next_is (OwnClient c.args.sessions.items) c.loop-client.client _ _ c.in-Some.session i.rest next in
    let below : c.loop-client.client < length c.loop-client.books.items = omega (arith, c.loop-client-test.true, i.end, i.count) in
    let own = c.into_sessions.ensures in
    let e = c.end_each.ensures in
    let many : length c.loop-client.closed.items ≡ g.N.PartCount.parts = omega (arith, i.same, c.requires.parts, c.args.closed.now.ok) in
    record {
      end = i.end;
      closed = e.closed;
      same = omega (arith, e.same, i.same, c.loop-client.closed.ok, c.end_each.new.closed.ok);
      count = length-set c.loop-client.books.items c.loop-client.client c.end_each.new.books ∙ i.count;
      rest = rest_are (OwnClient c.args.sessions.items) c.loop-client.client _ _ c.in-Some.session i.rest next;
      counted = omega (arith, i.counted, ap length next);
      left = set_above (λ _ shelf. (shelf.items ≡ []) × (g.N.PartCount.parts ≤ vec_capacity shelf)) c.loop-client.client _ c.loop-client.books.items c.end_each.new.books i.left;
      ended = ended_more g.N.PartNames.past g.N.PartCount.parts c.loop-client.client _ c.in-Some.session c.loop-client.closed.items c.end_each.new.closed.items c.loop-client.books.items c.end_each.new.books i.ended many
          (omega (arith, ap length own.sessions, own.all, c.into_sessions.result.ok)) below stands.0 stands.1 (subst (AreSessionsOf c.in-Some.session.client) own.sessions own.each)
          (rw own.sessions at e.ended) (omega (arith, e.count, many, c.end_each.new.books.ok, c.loop-client.closed.ok));
    }

pub end_each-requires : goal.end_each-requires
end_each-requires g c =
    let i = c.loop-client.invariant in
    let below : c.loop-client.client < length c.loop-client.books.items = omega (arith, c.loop-client-test.true, i.end, i.count) in
    let shelf = i.left c.loop-client.client _ (omega arith) (omega (arith, below, i.count)) in
    let at = c.index_mut.ensures.value in
    record {
      closed = i.closed;
      count = omega (arith, c.into_sessions.ensures.all, i.same, c.requires.parts, c.args.closed.now.ok, c.loop-client.closed.ok);
      sessions = (_, c.into_sessions.ensures.each);
      empty = ap (λ shelf. shelf.items) at ∙ shelf.0;
      room = omega (arith, i.same, c.requires.parts, ap vec_capacity at, shelf.1, c.args.closed.now.ok, c.loop-client.closed.ok);
    }

pub returns-clause-ended : goal.returns-clause-ended
returns-clause-ended g c =
    let i = c.loop-client.invariant in
    let all : c.loop-client.client ≡ vec_len c.args.sessions = omega (arith, c.loop-client-test.false, c.loop-client.auto.client-end, i.end, c.requires.count, c.args.sessions.ok, c.args.books.now.ok) in
    subst (λ n. AreEnded g.N.PartNames.past g.N.PartCount.parts n c.args.sessions.items c.loop-client.closed.items c.loop-client.books.items) all i.ended
