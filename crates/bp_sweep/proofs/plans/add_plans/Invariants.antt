use Rattle.std.proofs.Common.{◌≡◌, ◌++◌, map, take}
use Rattle.bp_sweep.specs.Sweeping.{pool_with}
use Rattle.bp_sweep.proofs.plans.add_plans.Given as goal

abbrev pub invariant-loop-k : goal.invariant-loop-k
invariant-loop-k l = l.plans.items ≡ l.initial.plans.items ++ map (pool_with l.frames l.correlated) (take l.k-index l.ks)
