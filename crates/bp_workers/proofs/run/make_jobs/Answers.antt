-- One job after the other.
use Rattle.std.proofs.Common.{◌≡◌, sym, ◌∙◌, ap, suc, length, vec_len, arith, Some}
use Rattle.std.proofs.lemmas.List.Elements.{All-head, All-tail, All-same}
use Rattle.std.specs.Prelude.{zip}
use Rattle.std.specs.Vec.Iter.{into_iter_items}
use Rattle.bp_workers.specs.Workers.{held_upkeep, new_upkeep}
use Rattle.bp_workers.specs.Jobs.{IsOfPool}
use Rattle.bp_workers.specs.Runs.{IsNewJob}
use Rattle.bp_workers.proofs.Lining.{none_beside, one_beside, all_beside, one_of_each, none_of_each, sessions_from, in_order, next_session}
use Rattle.bp_workers.proofs.run.make_jobs.Goals as goal

pub loop-worker-init : goal.loop-worker-init
loop-worker-init g c =
    let sessions = c.into_iter-sessions.ensures.rest in
    let none : vec_len c.in-Ok.jobs ≡ 0 = c.in-Ok.ensures.len in
    let workers = c.into_iter-worker-iterator.ensures.into_iter_gives.0 in
    let ports = c.into_iter-ports.ensures.rest in
    let count : length (into_iter_items c.into_iter-worker-iterator.result) ≡ vec_len c.args.workers = omega (arith, ap length workers, c.args.workers.ok) in
    record {
      made = none_beside IsNewJob _ _ _ (ap (λ ws. zip ws (into_iter_items c.into_iter-ports.result)) workers ∙ ap (zip c.args.workers.items) ports) c.in-Ok.ensures.items;
      sessions = sessions ∙ c.requires.sessions ∙ in_order (vec_len c.args.workers) ∙ ap (λ n. sessions_from n (vec_len c.args.workers)) (sym none) ∙ ap (sessions_from (vec_len c.in-Ok.jobs)) (sym count);
      ports = omega (arith, count, ap length ports, c.args.ports.ok, c.requires.ports);
      of_pool = All-same (λ p. IsOfPool g.N.PoolName.parameters (g.P.Port.geometry_of p)) _ _ ports c.requires.of_pool;
      upkeep = ap Some c.requires.unused ∙ ap new_upkeep (sym none);
      room = omega (arith, none, count, c.in-Ok.ensures.capacity, c.len.ensures);
    }

pub invariant_of-client : goal.invariant_of-client
invariant_of-client g c =
    let own = All-head (λ p. IsOfPool g.N.PoolName.parameters (g.P.Port.geometry_of p)) c.in-Some-next-2.port (into_iter_items c.next-in-loop-worker-2.new.self) (All-same (λ p. IsOfPool g.N.PoolName.parameters (g.P.Port.geometry_of p)) _ _ (sym c.in-Some-next-2.ensures.items) c.loop-worker.invariant.of_pool) in
    record { pages_are = own.pages; size_is = own.size }

pub loop-worker-preserved : goal.loop-worker-preserved
loop-worker-preserved g c =
    let i = c.loop-worker.invariant in
    let next = c.in-Some.ensures.steps.0 in
    let pair = one_of_each (into_iter_items c.loop-worker.worker-iterator) (into_iter_items c.next.new.self) (into_iter_items c.loop-worker.ports) (into_iter_items c.next-in-loop-worker-2.new.self) c.in-Some.worker c.in-Some-next-2.port next c.in-Some-next-2.ensures.items in
    let s = next_session _ _ _ _ _ c.in-Some-next.session i.sessions c.in-Some-next.ensures.items (ap length next) in
    let one : vec_len c.push_reserved.new.self ≡ suc (vec_len c.loop-worker.jobs) = omega (arith, c.push_reserved.ensures.len) in
    let left = length (into_iter_items c.next.new.self) in
    record {
      made = one_beside IsNewJob _ _ _ _ _ (c.in-Some.worker, c.in-Some-next-2.port) c.new-job.result (vec_len c.loop-worker.jobs) i.made pair c.push_reserved.ensures.items (omega (arith, c.loop-worker.jobs.ok)) (record {
        worker_is = c.new-job.ensures.worker;
        port_is = c.new-job.ensures.port;
        session = c.new-job.ensures.session ∙ s.is;
        upkeep = c.new-job.ensures.upkeep ∙ ap held_upkeep c.take.ensures.value ∙ i.upkeep;
      });
      sessions = s.after ∙ ap (λ n. sessions_from n left) (sym one);
      ports = omega (arith, i.ports, ap length next, ap length c.in-Some-next-2.ensures.items);
      of_pool = All-tail (λ p. IsOfPool g.N.PoolName.parameters (g.P.Port.geometry_of p)) c.in-Some-next-2.port (into_iter_items c.next-in-loop-worker-2.new.self) (All-same (λ p. IsOfPool g.N.PoolName.parameters (g.P.Port.geometry_of p)) _ _ (sym c.in-Some-next-2.ensures.items) i.of_pool);
      upkeep = ap held_upkeep c.take.ensures.after ∙ ap new_upkeep (sym one);
      room = omega (arith, i.room, one, ap length next, c.push_reserved.ensures.capacity);
    }

pub returns-clause-jobs : goal.returns-clause-jobs
returns-clause-jobs g c =
    let workers = into_iter_items c.loop-worker.worker-iterator in
    let ports = into_iter_items c.loop-worker.ports in
    let none : length workers ≡ 0 = omega (arith, c.in-None.ensures.steps.0, c.loop-worker.worker-iterator.rest.ok) in
    all_beside IsNewJob (zip c.args.workers.items c.args.ports.items) (zip workers ports) c.loop-worker.jobs.items c.loop-worker.invariant.made (none_of_each workers ports none)
