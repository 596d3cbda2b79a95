-- One client more has its session.
use Rattle.std.proofs.Common.{◌≡◌, ◌∙◌, ◌+◌, ◌<◌, ap, arith, refl, [], length, length-set, vec_len}
use Rattle.bp_shared.specs.Sessions.{new_session_of}
use Rattle.bp_parts.specs.Making.{new_in_parts}
use Rattle.bp_parts.proofs.Dealing.{row_more, sessions_at, sessions_from}
use Rattle.bp_parts.proofs.Placing.{next_is, rest_are, set_above, set_below}
use Rattle.bp_parts.proofs.making.deal.Goals as goal

pub loop-client-init : goal.loop-client-init
loop-client-init g c =
    let given = c.requires.sessions in
    record {
      end = omega (arith, c.len-client-end.ensures, c.args.rows.now.ok);
      count = refl;
      counted = omega (arith, ap length c.into_iter-sessions.ensures.rest, ap length given, sessions_at c.args.part (vec_len c.args.rows.now), c.args.rows.now.ok);
      rest = sessions_from c.args.part (vec_len c.args.rows.now) _ _ given c.into_iter-sessions.ensures.rest;
      dealt = λ i d below. absurd (omega (arith, below));
      left = λ i d from below. c.requires.rows i d below;
    }

pub unreachable-requires : goal.unreachable-requires
unreachable-requires g c =
    let i = c.loop-client.invariant in
    absurd (omega (arith, c.in_default.ensures.cases.0, c.loop-client-test.true, i.end, i.counted))

pub loop-client-preserved : goal.loop-client-preserved
loop-client-preserved g c =
    let i = c.loop-client.invariant in
    let next = c.in-Some.ensures.items in
    let below : c.loop-client.client < length c.loop-client.rows.items = omega (arith, c.loop-client-test.true, i.end, i.count) in
    let is = next_is (λ client s. s ≡ new_session_of c.args.part [] client) c.loop-client.client _ _ c.in-Some.session i.rest next in
    let old = ap (λ row. row.items) c.index_mut.ensures.value ∙ i.left c.loop-client.client _ (omega arith) (omega (arith, below, i.count)) in
    record {
      end = i.end;
      count = length-set c.loop-client.rows.items c.loop-client.client c.push.new.self ∙ i.count;
      counted = omega (arith, i.counted, ap length next);
      rest = rest_are (λ client s. s ≡ new_session_of c.args.part [] client) c.loop-client.client _ _ c.in-Some.session i.rest next;
      dealt = set_below (λ client row. row.items ≡ new_in_parts (c.args.part + 1) client) c.loop-client.client c.loop-client.rows.items c.push.new.self below i.dealt (row_more c.args.part c.loop-client.client _ _ c.in-Some.session old c.in-Ok.ensures.items is);
      left = set_above (λ client row. row.items ≡ new_in_parts c.args.part client) c.loop-client.client _ c.loop-client.rows.items c.push.new.self i.left;
    }

pub returns-clause-dealt : goal.returns-clause-dealt
returns-clause-dealt g c =
    let i = c.loop-client.invariant in
    λ k d below. i.dealt k d (omega (arith, below, i.count, i.end, c.loop-client-test.false))
