-- Each job is ready.
use Rattle.std.proofs.Common.{sym, subst, rules}
use Rattle.std.proofs.lemmas.List.Elements.{All-get_or}
use Rattle.bp_workers.specs.Jobs.{IsReady}
use Rattle.bp_workers.proofs.run.run_jobs.Goals as goal

pub for_each_mut-requires-clause-accepts : goal.for_each_mut-requires-clause-accepts
for_each_mut-requires-clause-accepts g c κs within i p below is =
    let ready : IsReady p.now = subst IsReady (sym is) (All-get_or IsReady c.args.jobs.now i p.now below c.requires.ready) in
    search (rules, c.requires.empty, ready)
