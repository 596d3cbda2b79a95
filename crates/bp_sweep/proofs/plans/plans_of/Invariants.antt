use Rattle.std.proofs.Common.{◌≡◌, take}
use Rattle.bp_sweep.specs.Sweeping.{plans_of}
use Rattle.bp_sweep.proofs.plans.plans_of.Given as goal

abbrev pub invariant-loop-count : goal.invariant-loop-count
invariant-loop-count l = l.plans.items ≡ plans_of (take l.count-index l.frames) l.ks l.correlated
