-- One job more.
use Rattle.std.proofs.Common.{◌≡◌, ◌∙◌, ap, arith, refl, sym, subst, length, vec_len}
use Rattle.std.specs.Vec.Iter.{into_iter_items}
use Rattle.bp_parts.proofs.Placing.{longer, next_is, up_to_each, up_to_length}
use Rattle.bp_part_workers.proofs.Lining.{AreNewBelow, IsGiven, IsNewClient, Stands, all_given, at_next, at_zero, new_client, new_more, stands_all}
use Rattle.bp_part_workers.proofs.run.make_jobs.Goals as goal

pub loop-worker-init : goal.loop-worker-init
loop-worker-init g c =
    let zero = ap length c.in-Ok.ensures.items in
    let gives = c.into_iter-worker-iterator.ensures.into_iter_gives.0 in
    let sessions = c.into_iter-sessions.ensures.rest in
    let ports = c.into_iter-ports.ensures.rest in
    let parts = g.N.PartCount.parts in
    record {
      workers = at_zero (Stands c.args.workers.items) _ c.args.workers.items (into_iter_items c.into_iter-worker-iterator.result) zero gives (stands_all c.args.workers.items);
      ports = at_zero (IsGiven parts g.N.PartNames.parameters c.args.ports.items) _ c.args.ports.items (into_iter_items c.into_iter-ports.result) zero ports (all_given parts g.N.PartNames.parameters c.args.ports.items c.requires.stripes);
      sessions = at_zero (IsNewClient parts) _ c.args.sessions.items (into_iter_items c.into_iter-sessions.result) zero sessions (up_to_each (new_client parts) (vec_len c.args.workers) c.args.sessions.items c.requires.sessions);
      counted = omega (arith, zero, ap length gives);
      ports_left = omega (arith, ap length ports, ap length gives, c.requires.ports, c.args.ports.ok, c.args.workers.ok);
      sessions_left = omega (arith, ap length sessions, ap length gives, ap length c.requires.sessions, up_to_length (new_client parts) (vec_len c.args.workers), c.args.workers.ok);
      room = omega (arith, c.in-Ok.ensures.capacity, c.len.ensures, c.args.workers.ok);
      made = λ n w p j below. absurd (omega (arith, below, zero));
    }

pub invariant_of-new : goal.invariant_of-new
invariant_of-new g c =
    let is = next_is (IsGiven g.N.PartCount.parts g.N.PartNames.parameters c.args.ports.items) (length c.loop-worker.jobs.items) _ _ c.in-Some-next-2.port c.loop-worker.invariant.ports c.in-Some-next-2.ensures.items in
    record { stripes_are = is.1.stripes; parts_are = c.requires.parts; pages_are = is.1.pages; size_is = is.1.size }

pub loop-worker-preserved : goal.loop-worker-preserved
loop-worker-preserved g c =
    let i = c.loop-worker.invariant in
    let parts = g.N.PartCount.parts in
    let k = length c.loop-worker.jobs.items in
    let next = c.in-Some.ensures.steps.0 in
    let next_session = c.in-Some-next.ensures.items in
    let next_port = c.in-Some-next-2.ensures.items in
    let adds = c.push_reserved.ensures.items in
    let one = longer c.loop-worker.jobs.items _ c.new.result k refl adds in
    let worker = next_is (Stands c.args.workers.items) k _ _ c.in-Some.worker i.workers next in
    let port = next_is (IsGiven parts g.N.PartNames.parameters c.args.ports.items) k _ _ c.in-Some-next-2.port i.ports next_port in
    let session = next_is (IsNewClient parts) k _ _ c.in-Some-next.session i.sessions next_session in
    record {
      workers = at_next (Stands c.args.workers.items) k _ _ _ c.in-Some.worker one next i.workers;
      ports = at_next (IsGiven parts g.N.PartNames.parameters c.args.ports.items) k _ _ _ c.in-Some-next-2.port one next_port i.ports;
      sessions = at_next (IsNewClient parts) k _ _ _ c.in-Some-next.session one next_session i.sessions;
      counted = omega (arith, i.counted, ap length next, one);
      ports_left = omega (arith, i.ports_left, ap length next, ap length next_port);
      sessions_left = omega (arith, i.sessions_left, ap length next, ap length next_session);
      room = omega (arith, i.room, c.push_reserved.ensures.capacity);
      made =
          subst (λ n. AreNewBelow parts n c.args.workers.items c.args.ports.items c.push_reserved.new.self.items) (sym one)
          (new_more parts k c.args.workers.items c.args.ports.items c.loop-worker.jobs.items _ c.in-Some.worker c.in-Some-next-2.port c.new.result i.made refl adds worker port.0
          (record { worker_is = c.new.ensures.worker; port_is = c.new.ensures.port; session_is = c.new.ensures.session ∙ session }));
    }

pub returns-clause-jobs : goal.returns-clause-jobs
returns-clause-jobs g c =
    let i = c.loop-worker.invariant in
    let count : length c.loop-worker.jobs.items ≡ length c.args.workers.items = omega (arith, i.counted, c.in-None.ensures.steps.0, c.loop-worker.worker-iterator.rest.ok) in
    record { count = count; each = λ n w p j below. i.made n w p j (omega (arith, below, count)) }
