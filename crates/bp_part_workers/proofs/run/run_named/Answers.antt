-- From the jobs that were made to what they left.
use Rattle.std.proofs.Common.{◌≡◌, ◌≤◌, ◌∙◌, ap, arith, drop, sym, subst, All, length, slice_index_or, vec_len}
use Rattle.std.proofs.lemmas.List.{take_at}
use Rattle.bp_trail.specs.Clock.{durable}
use Rattle.bp_shared.specs.Taking.{TakerValue}
use Rattle.bp_parts.proofs.Placing.{up_to_each, up_to_length}
use Rattle.bp_part_workers.specs.Jobs.{IsReady}
use Rattle.bp_part_workers.proofs.Lining.{all_left_by, all_ready, clients_are, new_taker}
use Rattle.bp_part_workers.proofs.run.run_named.Goals as goal

pub run_jobs-requires-clause-ready : goal.run_jobs-requires-clause-ready
run_jobs-requires-clause-ready g c κs within =
    subst (λ jobs. All (IsReady g.N.PartCount.parts) jobs) (sym c.as_mut_slice.ensures.value) (all_ready g.N.PartCount.parts c.args.workers.items c.args.ports.items c.in_ok-jobs.jobs.items c.in_ok-jobs.ensures.jobs)

pub take_apart-sessions-requires-clause-room : goal.take_apart-sessions-requires-clause-room
take_apart-sessions-requires-clause-room g c = (
  omega (arith, c.in_ok-jobs.ensures.jobs.count, c.in_ok-jobs.jobs.ok, c.args.workers.ok, c.len-clients.ensures, c.in_ok-sessions.ensures.capacity),
  omega (arith, c.in_ok-jobs.ensures.jobs.count, c.in_ok-jobs.jobs.ok, c.args.workers.ok, c.len-clients.ensures, c.in_ok-left.ensures.capacity),
)

pub end_parts-ended-requires-clause-clients : goal.end_parts-ended-requires-clause-clients
end_parts-ended-requires-clause-clients g c =
    let old = c.in_ok-jobs.jobs.items in
    let new = c.run_jobs.new.jobs in
    let lent : c.as_mut_slice.result.now ≡ old = c.as_mut_slice.ensures.value in
    let kept : length new ≡ length old = c.run_jobs.ensures.counted ∙ ap length lent in
    let back = take_at new (drop (length new) old) c.in_ok-jobs.jobs.len (omega (arith, kept, c.in_ok-jobs.jobs.ok)) in
    clients_are g.W.PartedWorker.leaves g.N.PartCount.parts c.args.workers.items c.args.ports.items old new c.take_apart-sessions.result.0.items c.take_apart-sessions.result.1.items c.in_ok-jobs.ensures.jobs
    (omega (arith, c.requires.ports, c.args.ports.ok, c.args.workers.ok)) kept (rw lent at c.run_jobs.ensures.ran) (rw back at c.take_apart-sessions.ensures.apart)

pub end_parts-ended-requires-clause-takers : goal.end_parts-ended-requires-clause-takers
end_parts-ended-requires-clause-takers g c i d below = ap (λ (t : TakerValue). t.part) (up_to_each new_taker g.N.PartCount.parts _ c.in_ok-pool.ensures.takers i d below)

pub end_parts-ended-requires-clause-taken : goal.end_parts-ended-requires-clause-taken
end_parts-ended-requires-clause-taken g c = omega (arith, ap length c.in_ok-pool.ensures.takers, up_to_length new_taker g.N.PartCount.parts, c.in_ok-pool.takers.ok)

pub end_parts-ended-requires-clause-room : goal.end_parts-ended-requires-clause-room
end_parts-ended-requires-clause-room g c =
    let old = c.in_ok-jobs.jobs.items in
    let new = c.run_jobs.new.jobs in
    let lent : c.as_mut_slice.result.now ≡ old = c.as_mut_slice.ensures.value in
    let kept : length new ≡ length old = c.run_jobs.ensures.counted ∙ ap length lent in
    let back = take_at new (drop (length new) old) c.in_ok-jobs.jobs.len (omega (arith, kept, c.in_ok-jobs.jobs.ok)) in
    let apart = rw back at c.take_apart-sessions.ensures.apart in
    (c.in_ok-pool.ensures.room.0, omega (arith, c.in_ok-pool.ensures.room.1, apart.sessions_are, kept, c.in_ok-jobs.ensures.jobs.count, c.len-clients.ensures, c.requires.few, c.take_apart-sessions.result.0.ok, c.args.workers.ok))

pub returns-clause-legal : goal.returns-clause-legal
returns-clause-legal g c i d below =
    let is = c.end_parts-ended.ensures.cores i (new_taker 0) d below in
    let untaken = ap (λ (t : TakerValue). t.past) (up_to_each new_taker g.N.PartCount.parts _ c.in_ok-pool.ensures.takers i (new_taker 0) (omega (arith, below, c.end_parts-ended.ensures.parts, c.end_parts-ended.result.cores.ok, ap length c.in_ok-pool.ensures.takers, up_to_length new_taker g.N.PartCount.parts))) in
    record { parameters_are = is.parameters_are; legal = is.legal; whole = is.before_is ∙ untaken; marked = subst (λ n. durable (slice_index_or c.end_parts-ended.result.cores.items i d).past ≤ n) (sym c.durable-raised.ensures) is.marked }

pub returns-clause-left : goal.returns-clause-left
returns-clause-left g c =
    let old = c.in_ok-jobs.jobs.items in
    let new = c.run_jobs.new.jobs in
    let lent : c.as_mut_slice.result.now ≡ old = c.as_mut_slice.ensures.value in
    let kept : length new ≡ length old = c.run_jobs.ensures.counted ∙ ap length lent in
    let back = take_at new (drop (length new) old) c.in_ok-jobs.jobs.len (omega (arith, kept, c.in_ok-jobs.jobs.ok)) in
    let apart = rw back at c.take_apart-sessions.ensures.apart in
    let many : vec_len c.take_apart-sessions.result.0 ≡ length c.args.workers.items = omega (arith, apart.sessions_are, kept, c.in_ok-jobs.ensures.jobs.count, c.take_apart-sessions.result.0.ok) in
    all_left_by g.W.PartedWorker.leaves g.N.PartCount.parts (vec_len c.take_apart-sessions.result.0) c.args.workers.items c.args.ports.items old new c.take_apart-sessions.result.0.items c.take_apart-sessions.result.1.items c.end_parts-ended.result.cores.items
    c.end_parts-ended.result.books.items c.in_ok-jobs.ensures.jobs kept (rw lent at c.run_jobs.ensures.ran) apart (rw c.requires.new.1 at c.end_parts-ended.ensures.books) many
    (omega (arith, c.end_parts-ended.ensures.clients, many, c.end_parts-ended.result.books.ok))
