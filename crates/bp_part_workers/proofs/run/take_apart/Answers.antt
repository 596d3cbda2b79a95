-- One job more.
use Rattle.std.proofs.Common.{◌≡◌, ap, arith, refl, sym, subst, length}
use Rattle.std.specs.Vec.Iter.{into_iter_items}
use Rattle.bp_parts.proofs.Placing.{longer, next_is}
use Rattle.bp_part_workers.proofs.Lining.{AreApartBelow, Stands, apart_more, at_next, at_zero, stands_all}
use Rattle.bp_part_workers.proofs.run.take_apart.Goals as goal

pub loop-job-init : goal.loop-job-init
loop-job-init g c =
    let zero = ap length c.requires.empty.0 in
    let gives = c.into_iter-job-iterator.ensures.into_iter_gives.0 in
    record {
      rest = at_zero (Stands c.args.jobs.items) _ c.args.jobs.items (into_iter_items c.into_iter-job-iterator.result) zero gives (stands_all c.args.jobs.items);
      counted = omega (arith, zero, ap length gives);
      left = omega (arith, zero, ap length c.requires.empty.1);
      room = omega (arith, c.requires.room.0, c.args.jobs.ok);
      room_left = omega (arith, c.requires.room.1, c.args.jobs.ok);
      apart = λ n j s l below. absurd (omega (arith, below, zero));
    }

pub loop-job-preserved : goal.loop-job-preserved
loop-job-preserved g c =
    let i = c.loop-job.invariant in
    let k = length c.loop-job.sessions.items in
    let next = c.in-Some.ensures.steps.0 in
    let adds = c.push_reserved.ensures.items in
    let adds_left = c.push_reserved-in-loop-job.ensures.items in
    let one = longer c.loop-job.sessions.items _ c.into_left-session.result.0 k refl adds in
    let one_left = longer c.loop-job.left.items _ c.into_left-session.result.1 k i.left adds_left in
    record {
      rest = at_next (Stands c.args.jobs.items) k _ _ _ c.in-Some.job one next i.rest;
      counted = omega (arith, i.counted, ap length next, one);
      left = omega (arith, one, one_left);
      room = omega (arith, i.room, c.push_reserved.ensures.capacity);
      room_left = omega (arith, i.room_left, c.push_reserved-in-loop-job.ensures.capacity);
      apart =
          subst (λ n. AreApartBelow n c.args.jobs.items c.push_reserved.new.self.items c.push_reserved-in-loop-job.new.self.items) (sym one)
          (apart_more k c.args.jobs.items c.loop-job.sessions.items _ c.loop-job.left.items _ c.in-Some.job c.into_left-session.result.0 c.into_left-session.result.1 i.apart refl i.left adds adds_left
          (next_is (Stands c.args.jobs.items) k _ _ c.in-Some.job i.rest next) (record { session_is = c.into_left-session.ensures.session; worker_is = c.into_left-session.ensures.worker; port_is = c.into_left-session.ensures.port }));
    }

pub returns : goal.returns
returns g c =
    let i = c.loop-job.invariant in
    let count : length c.loop-job.sessions.items ≡ length c.args.jobs.items = omega (arith, i.counted, c.in-None.ensures.steps.0, c.loop-job.job-iterator.rest.ok) in
    record { apart = record { sessions_are = count; left_are = omega (arith, i.left, count); each = λ n j s l below. i.apart n j s l (omega (arith, below, count)) } }
