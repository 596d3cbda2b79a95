-- What one more job left.
use Rattle.std.proofs.Common.{◌≡◌, sym, subst, arith, refl, ap, ◌+◌, ◌∙◌, [], ◌∷◌, length, rules}
use Rattle.std.proofs.lemmas.Bool.{false≢true}
use Rattle.std.proofs.lemmas.List.{length-append, nil_from_length}
use Rattle.std.specs.Vec.Iter.{into_iter_items}
use Rattle.std.specs.Prelude.{IsSome}
use Rattle.bp_workers.specs.Workers.{held_upkeep}
use Rattle.bp_workers.specs.Jobs.{first_upkeep}
use Rattle.bp_workers.proofs.Lining.{IsLeftAt, left_beside, first_beside, left_of_each, next_numbered, all_beside}
use Rattle.bp_workers.proofs.run.all_left.Goals as goal

pub loop-job-preserved : goal.loop-job-preserved
loop-job-preserved g c =
    let i = c.loop-job.invariant in
    let left = c.into_left-one-in-loop-job.ensures in
    let next = c.in-Some-job.ensures.steps.0 in
    let adds = c.push_reserved-in-loop-job.ensures.items in
    let more = next_numbered _ _ _ _ c.in-Some-job.job next (ap length adds ∙ length-append c.loop-job.left.items _) i.numbered in
    record {
      numbered = more.1;
      made = left_beside g.N.PoolName.parameters g.P.Port.geometry_of g.N.PoolName.past _ c.loop-job.pool c.into_left-one-in-loop-job.new.pool _ _ _ _ _ c.in-Some-job.job _ i.made next adds refl more.0 left.pool left.left;
      room = omega (arith, i.room, ap length next, c.push_reserved-in-loop-job.ensures.len, c.push_reserved-in-loop-job.ensures.capacity);
    }

pub loop-job-init : goal.loop-job-init
loop-job-init g c =
    let begins : c.args.jobs.items ≡ c.in-Some.first ∷ into_iter_items c.into_iter-job-iterator.result = search rules in
    let adds = c.push_reserved.ensures.items in
    let none = ap length c.requires.empty in
    let one : length c.push_reserved.new.self.items ≡ 0 + 1 = omega (arith, ap length adds, length-append c.args.left.items (c.into_left-one.result.0 ∷ []), none) in
    let left = c.into_left-one.ensures in
    record {
      numbered = (next_numbered 0 _ _ _ c.in-Some.first begins one c.requires.numbered).1;
      made = first_beside g.N.PoolName.parameters g.P.Port.geometry_of g.N.PoolName.past c.into_left-one.new.pool.past _ _ _ _ c.in-Some.first c.into_left-one.result.0 begins c.requires.empty adds c.requires.numbered left.left;
      room = omega (arith, one, none, ap length begins, c.requires.room, c.push_reserved.ensures.len, c.push_reserved.ensures.capacity, c.args.jobs.ok, c.args.left.ok);
    }

pub returns-clause-left : goal.returns-clause-left
returns-clause-left g c =
    left_of_each g.N.PoolName.parameters g.P.Port.geometry_of g.N.PoolName.past c.loop-job.pool.past 0 _ _
    (all_beside (IsLeftAt g.N.PoolName.parameters g.P.Port.geometry_of g.N.PoolName.past c.loop-job.pool.past) c.args.jobs.items (into_iter_items c.loop-job.job-iterator) c.loop-job.left.items c.loop-job.invariant.made (omega (arith, c.in-None.ensures.steps.0, c.loop-job.job-iterator.rest.ok)))

pub push_reserved-requires : goal.push_reserved-requires
push_reserved-requires g c =
    let begins = sym c.into_iter-jobs.ensures.rest ∙ c.in-Some.ensures.items in
    omega (arith, ap length begins, ap length c.requires.empty, c.requires.room, c.args.jobs.ok, c.args.left.ok)

pub push_reserved-requires-in-loop-job : goal.push_reserved-requires-in-loop-job
push_reserved-requires-in-loop-job g c = omega (arith, c.loop-job.invariant.room, ap length c.in-Some-job.ensures.steps.0)

pub unreachable-requires : goal.unreachable-requires
unreachable-requires g c =
    let none = nil_from_length c.args.jobs.items (omega (arith, c.in_default.ensures.cases.0, c.into_iter-jobs.ensures.len, c.args.jobs.ok)) in
    absurd (false≢true (subst (λ jobs. IsSome (first_upkeep jobs)) none c.requires.upkeep))

pub unreachable-requires-in_default-upkeep : goal.unreachable-requires-in_default-upkeep
unreachable-requires-in_default-upkeep g c =
    let begins = sym c.into_iter-jobs.ensures.rest ∙ c.in-Some.ensures.items in
    let some = subst IsSome (ap first_upkeep begins ∙ sym c.into_left-one.ensures.upkeep ∙ ap held_upkeep c.in_default-upkeep.is) c.requires.upkeep in
    absurd (false≢true some)

pub returns-clause-upkeep : goal.returns-clause-upkeep
returns-clause-upkeep g c =
    let begins = sym c.into_iter-jobs.ensures.rest ∙ c.in-Some.ensures.items in
    ap first_upkeep begins ∙ sym c.into_left-one.ensures.upkeep ∙ ap held_upkeep c.in-Some-upkeep.is
