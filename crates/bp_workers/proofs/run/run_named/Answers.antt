-- There is a job for each worker and its port.
use Rattle.std.proofs.Common.{◌≡◌, ◌≤◌, arith, refl, sym, ap, subst, ◌∙◌, length, Err}
use Rattle.std.proofs.lemmas.Result.{err_from_is_err_and}
use Rattle.std.specs.Prelude.{zip}
use Rattle.bp_trail.specs.Clock.{durable}
use Rattle.bp_shared.specs.Taking.{PoolRing}
use Rattle.bp_shared.proofs.Working.{why-of}
use Rattle.bp_workers.specs.Runs.{IsNewJob}
use Rattle.bp_workers.proofs.Lining.{as_long, as_many, all_ready, new_numbered, first_keeps}
use Rattle.bp_workers.proofs.run.run_named.Goals as goal

pub run_pool-requires-clause-some : goal.run_pool-requires-clause-some
run_pool-requires-clause-some g c κs within =
    let given = zip c.args.workers.items c.args.ports.items in
    let count : length given ≡ length c.args.workers.items = as_many c.args.workers.items c.args.ports.items (omega (arith, c.requires.ports, c.args.workers.ok, c.args.ports.ok)) in
    omega (arith, as_long IsNewJob 0 given c.in-Ok.jobs.items c.in-Ok.ensures.jobs, count, c.requires.some, c.args.workers.ok, c.in-Ok.jobs.ok)

pub run_pool-requires-clause-ready : goal.run_pool-requires-clause-ready
run_pool-requires-clause-ready g c κs within = all_ready 0 (zip c.args.workers.items c.args.ports.items) c.in-Ok.jobs.items c.in-Ok.ensures.jobs

pub run_pool-requires-clause-numbered : goal.run_pool-requires-clause-numbered
run_pool-requires-clause-numbered g c κs within = new_numbered 0 (zip c.args.workers.items c.args.ports.items) c.in-Ok.jobs.items c.in-Ok.ensures.jobs

pub run_pool-requires-clause-upkeep : goal.run_pool-requires-clause-upkeep
run_pool-requires-clause-upkeep g c κs within =
    let given = zip c.args.workers.items c.args.ports.items in
    let count : length given ≡ length c.args.workers.items = as_many c.args.workers.items c.args.ports.items (omega (arith, c.requires.ports, c.args.workers.ok, c.args.ports.ok)) in
    first_keeps given c.in-Ok.jobs.items c.in-Ok.ensures.jobs (omega (arith, count, c.requires.some, c.args.workers.ok))

pub returns : goal.returns
returns g c = record { parameters = c.run_pool.ensures.parameters; left = c.run_pool.ensures.left (zip c.args.workers.items c.args.ports.items) c.in-Ok.ensures.jobs; agrees = c.run_pool.ensures.agrees; refused = c.run_pool.ensures.refused }

pub returns-in-Err : goal.returns-in-Err
returns-in-Err g c = record { parameters = tt; left = tt; agrees = tt; refused = ap Err (ap why-of c.in-Err.ensures.refused) }

pub returns-in_err-pool : goal.returns-in_err-pool
returns-in_err-pool g c =
    let all = ap (λ (r : PoolRing). length r.rings) (sym c.requires.ring) ∙ c.requires.rings ∙ sym c.requires.clients in
    let is = err_from_is_err_and c.from_residual.result c.from_residual.ensures.1 in
    rw (is.1 ∙ ap Err (is.2 ∙ ap why-of (c.in_err-pool.ensures.refused all))) (record { parameters = tt; left = tt; agrees = tt; refused = refl })

pub new-requires : goal.new-requires
new-requires g c = record {
  mark = c.requires.mark;
  reader = c.args.parts.reader_is ∙ c.requires.mark;
  parameters = c.requires.parameters;
  before = c.requires.before.0;
  past = c.requires.new.0;
  ring = c.requires.ring;
  seen = subst (λ past. durable past ≤ c.args.parts.reader.seen) (sym c.requires.new.1) (omega arith);
}

pub run_pool-requires-clause-new : goal.run_pool-requires-clause-new
run_pool-requires-clause-new g c κs within = sym c.requires.new.0 ∙ c.requires.new.1
