-- From the jobs that were made to what they left.
use Rattle.std.proofs.Common.{◌≡◌, refl, sym, ◌∙◌, ap, subst, arith, drop, length}
use Rattle.std.proofs.lemmas.List.{take_at}
use Rattle.std.specs.Prelude.{IsSome}
use Rattle.bp_core.specs.CoreView.{CoreView}
use Rattle.bp_workers.specs.Workers.{upkeep_value}
use Rattle.bp_workers.specs.Jobs.{AreNumbered, first_upkeep}
use Rattle.bp_workers.proofs.Lining.{still_keeps, ran_numbered, all_left_by}
use Rattle.bp_workers.proofs.run.run_pool.Goals as goal

pub all_left-upkeep-requires-clause-upkeep : goal.all_left-upkeep-requires-clause-upkeep
all_left-upkeep-requires-clause-upkeep g c =
    let old = c.args.jobs.items in
    let new = c.run_jobs.new.jobs in
    let lent : c.as_mut_slice.result.now ≡ old = c.as_mut_slice.ensures.value in
    let kept : length new ≡ length old = c.run_jobs.ensures.counted ∙ ap length lent in
    let back = take_at new (drop (length new) old) c.args.jobs.len (omega (arith, kept, c.args.jobs.ok)) in
    subst (λ jobs. IsSome (first_upkeep jobs)) (sym back) (still_keeps g.W.SharingWorker.leaves old new kept (rw lent at c.run_jobs.ensures.ran) c.requires.upkeep)

pub all_left-upkeep-requires-clause-numbered : goal.all_left-upkeep-requires-clause-numbered
all_left-upkeep-requires-clause-numbered g c =
    let old = c.args.jobs.items in
    let new = c.run_jobs.new.jobs in
    let lent : c.as_mut_slice.result.now ≡ old = c.as_mut_slice.ensures.value in
    let kept : length new ≡ length old = c.run_jobs.ensures.counted ∙ ap length lent in
    let back = take_at new (drop (length new) old) c.args.jobs.len (omega (arith, kept, c.args.jobs.ok)) in
    subst (AreNumbered 0) (sym back) (ran_numbered g.W.SharingWorker.leaves 0 old new kept (rw lent at c.run_jobs.ensures.ran) c.requires.numbered)

pub returns : goal.returns
returns g c =
    let old = c.args.jobs.items in
    let new = c.run_jobs.new.jobs in
    let lent : c.as_mut_slice.result.now ≡ old = c.as_mut_slice.ensures.value in
    let kept : length new ≡ length old = c.run_jobs.ensures.counted ∙ ap length lent in
    let back = take_at new (drop (length new) old) c.args.jobs.len (omega (arith, kept, c.args.jobs.ok)) in
    let end = c.into_core-core.ensures in
    let ended : c.end_receipt.new.self.past ≡ c.into_core-core.result.0.past = sym (ap (λ (core : CoreView). core.past) end.core) in
    let whole : c.all_left-upkeep.new.pool.past ≡ c.into_core-core.result.0.past = sym (ap (λ (core : CoreView). core.past) c.end_receipt.ensures.same) ∙ ended in
    record {
      parameters = end.parameters;
      left = λ given are. all_left_by g.N.PoolName.parameters g.P.Port.geometry_of c.into_core-core.result.0 g.W.SharingWorker.leaves (upkeep_value c.all_left-upkeep.result.0) given old new c.all_left-upkeep.result.1.items are kept (rw lent at c.run_jobs.ensures.ran) (rw whole at (rw c.requires.new at (rw back at c.all_left-upkeep.ensures.left))) (sym end.parameters)
          (rw back at c.all_left-upkeep.ensures.upkeep) (sym end.before, omega (arith, end.seen, c.close.ensures.seen, c.close.ensures.frontier, c.into_log_end.ensures.frontier));
      agrees = record { seen = _; agrees_with = c.state.invariant; older = rw ended at c.end_receipt.ensures.older };
      refused = tt;
    }

pub returns-in_default : goal.returns-in_default
returns-in_default g c = record { parameters = tt; left = λ given are. tt; agrees = tt; refused = refl }

pub close-requires : goal.close-requires
close-requires g c =
    let end = c.into_core-core.ensures in
    record { log_end = c.into_log_end.ensures.mark ∙ sym end.mark; reader = end.reader ∙ sym end.mark }
